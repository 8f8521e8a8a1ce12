-- `Publisher::append`: the call of `be_open` and the invariant of what it leaves, by `batch_room` and `taped_push`.
use Rattle.std.proofs.Common.{◌≡◌, ◌<◌, ◌++◌, ◌∷◌, [], true, length, List, ap, sym, ◌∙◌, arith, rules}
use Rattle.std.proofs.lemmas.Grind.{common_steps}
use Rattle.nms_quote.specs.Roster.{holds}
use Rattle.nms_quote.specs.declared.change.Change.{Change}
use Rattle.nms_versions.specs.History.{Chronicle}
use Rattle.nms_versions.proofs.PublishLemmas.{batch_room, taped_push}
use Rattle.nms_versions.proofs.publisher.Publisher.append.Goals as goal

pub be_open-requires : goal.be_open-requires
be_open-requires c =
    let room : length c.self.inside.tape.items < c.self.inside.limit =
    grind (arith, c.self.invariant.1.within, c.if-len-self.false, c.len.ensures) in
    let short = batch_room _ _ _ _ _ _ c.self.invariant.1 in
    record { room = omega (arith, room, short.1, c.self.invariant.1.most) }

pub invariant_of-self-2 : goal.invariant_of-self-2
invariant_of-self-2 c =
    let room : length c.self.inside.tape.items < c.self.inside.limit =
    grind (arith, c.self.invariant.1.within, c.if-len-self.false, c.len.ensures) in
    let opened : c.be_open.new.self ≡ record c.self.inside.history { is_open = true } = search rules in
    let held : holds c.self.inside.writer.desk.shown.value.boards.sizes c.args.change ≡ true =
    ap (λ t. holds t.sizes c.args.change) c.self.view_is ∙ c.requires.held in
    let tape : c.put.new.tape.items ≡ c.self.inside.tape.items ++ c.args.change ∷ [] = c.put.ensures
    ∙ ap (λ (t : List Change). t ++ c.args.change ∷ []) c.reserve.ensures.items in
    let fresh : c.push.new.self ≡ c.self.inside.fresh ++ c.args.change ∷ [] = search rules in
    let sound = c.self.invariant.0 in (
      record {
        book = sound.book ∙ sym (ap (λ (h : Chronicle). h.opening) opened);
        log = sound.log ∙ sym (ap (λ (h : Chronicle). h.published) opened);
        idle = sound.idle;
      },
      rw (tape, fresh) (taped_push _ _ _ _ _ _ _ _ c.self.invariant.1 opened held room),
    )

-- ---- goals that `grind` closes; the search that is tried before it takes longer

pub returns-clause-full : goal.returns-clause-full
returns-clause-full c = grind (arith, common_steps)

pub returns-clause-added : goal.returns-clause-added
returns-clause-added c = grind (arith, common_steps)

pub invariant_of-self : goal.invariant_of-self
invariant_of-self c = grind (arith, common_steps)

pub returns-then-not-push-clause-full : goal.returns-then-not-push-clause-full
returns-then-not-push-clause-full c = grind (arith, common_steps)

pub put-requires : goal.put-requires
put-requires c = grind (arith, common_steps)

pub invariant_of-self-then-not-be_open : goal.invariant_of-self-then-not-be_open
invariant_of-self-then-not-be_open c = grind (arith, common_steps)

pub invariant_of-self-then-not-push : goal.invariant_of-self-then-not-push
invariant_of-self-then-not-push c = grind (arith, common_steps)
