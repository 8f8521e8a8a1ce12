-- `open_tape`: the call of `make_desks`, the publisher's invariant, by `taped_new`, and what both ends report.
use Rattle.std.proofs.Common.{◌∷◌, [], ap, replicate, ◌∙◌}
use Rattle.nms_versions.proofs.PublishLemmas.{taped_new}
use Rattle.nms_versions.proofs.opening.open_tape.Goals as goal

pub make_desks-requires-clause-named : goal.make_desks-requires-clause-named
make_desks-requires-clause-named g c = c.in_ok-writer.ensures.named

pub make_desks-requires-clause-empty : goal.make_desks-requires-clause-empty
make_desks-requires-clause-empty g c = c.token-seen.ensures.log ∙ c.new-history.ensures.empty

pub invariant_of-publisher : goal.invariant_of-publisher
invariant_of-publisher g c =
    let seen = ap (λ s. s.value.seen) c.in-Ok.ensures.shown ∙ c.in_ok-writer.ensures.seen in (
      record {
        book = ap (λ s. s.book) seen ∙ c.token-seen.ensures.book;
        log = ap (λ s. s.log) seen ∙ c.token-seen.ensures.log;
        idle = c.in-Ok.ensures.waiting ∙ c.in_ok-writer.ensures.idle;
      },
      rw (c.new.ensures.items, c.new-in-Ok.ensures) (taped_new _ _ _ c.new-history.ensures.empty c.tape_limit.ensures.high),
    )

pub returns-in-Ok-clause-opened : goal.returns-in-Ok-clause-opened
returns-in-Ok-clause-opened g c =
    let sizes = ap (λ s. s.value.boards.sizes) c.in-Ok.ensures.shown ∙ c.in_ok-writer.ensures.sizes in
    λ i. record {
      opening = c.new-history.result.opening;
      published = c.new-history.ensures.empty i;
      pending = c.new-in-Ok.ensures i;
      sizes = sizes i;
      limit = c.tape_limit.ensures.value i;
    }

pub returns-in-Ok-clause-desks : goal.returns-in-Ok-clause-desks
returns-in-Ok-clause-desks g c = c.in-Ok.ensures.desks ∙ (λ i. replicate (c.desks.ensures.value i) (record {
  opening = c.token-seen.ensures.book i;
  sizes = c.in_ok-writer.ensures.known i;
  known = [] ∷ [];
}))
