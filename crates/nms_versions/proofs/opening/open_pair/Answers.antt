-- `open_pair`: the call of `Writer::new`, by `kept_first`, the call of `name_opening`, and clauses `named` and `known`, by
-- `named_by` and `sizes_by`.
use Rattle.std.proofs.Common.{ap, arith, sym, ◌∙◌}
use Rattle.nms_quote.specs.Roster.{sizes_of}
use Rattle.nms_board.specs.Cells.{opening}
use Rattle.nms_versions.specs.declared.sealed.Sealed.{Sealed}
use Rattle.nms_versions.proofs.RuleLemmas.{kept_first, named_by, shown_as, sizes_by}
use Rattle.nms_versions.proofs.opening.open_pair.Goals as goal

pub new-requires-5-clause-readers : goal.new-requires-5-clause-readers
new-requires-5-clause-readers g c =
    (omega (arith, c.from.ensures, c.desks.ensures.low), omega (arith, c.from.ensures, c.desks.ensures.high))

pub new-requires-5-clause-alike : goal.new-requires-5-clause-alike
new-requires-5-clause-alike g c =
    let one = c.in-Ok-Ok.ensures.opening ∙ ap (λ r. opening (sizes_of r)) c.roster.ensures in
    let other = c.in-Ok-Ok.ensures'.opening ∙ ap (λ r. opening (sizes_of r)) c.roster-2.ensures in
    let seen = c.again.ensures ∙ sym c.again-2.ensures in
    λ i. record { boards = (one ∙ sym other) i; seen = seen i }

pub new-requires-5-clause-rule : goal.new-requires-5-clause-rule
new-requires-5-clause-rule g c =
    kept_first _ c.in-Ok-Ok.ensures.stands (ap (λ s. s.log) c.again.ensures ∙ c.requires.empty)

pub name_opening-requires-clause-idle : goal.name_opening-requires-clause-idle
name_opening-requires-clause-idle g c = c.in-Ok-new.ensures.1

pub name_opening-requires-clause-empty : goal.name_opening-requires-clause-empty
name_opening-requires-clause-empty g c = ap (λ v. v.items) c.in-Ok.ensures.ok ∙ c.new-3.ensures.items

pub name_opening-requires-clause-seen : goal.name_opening-requires-clause-seen
name_opening-requires-clause-seen g c =
    c.again-3.ensures ∙ sym c.again.ensures ∙ sym (ap (λ (s : Sealed). s.seen) c.in-Ok-new.ensures.0)

pub returns-clause-idle : goal.returns-clause-idle
returns-clause-idle g c = c.name_opening.ensures.idle

pub returns-clause-seen : goal.returns-clause-seen
returns-clause-seen g c =
    let was = ap (λ (s : Sealed). s.seen) c.in-Ok-new.ensures.0 ∙ c.again.ensures in
    shown_as c.name_opening.result (λ w. w.desk.shown.value) (λ s. s.seen) _ _ was c.name_opening.ensures.shown

pub returns-clause-sizes : goal.returns-clause-sizes
returns-clause-sizes g c =
    let was = ap (λ (s : Sealed). s.boards.sizes) c.in-Ok-new.ensures.0 ∙ ap (λ b. b.sizes) c.in-Ok-Ok.ensures.opening
    ∙ ap sizes_of c.roster.ensures in
    shown_as c.name_opening.result (λ w. w.desk.shown.value) (λ s. s.boards.sizes) _ _ was c.name_opening.ensures.shown

pub returns-clause-named : goal.returns-clause-named
returns-clause-named g c =
    let was = ap (λ (s : Sealed). s.seen.book) c.in-Ok-new.ensures.0 ∙ ap (λ s. s.book) c.again.ensures in
    named_by c.name_opening.result (λ w. w.desk.shown.value) (λ w. w.desk.place.me.0.client) _ _ was c.name_opening.ensures.shown
    c.name_opening.ensures.named

pub returns-clause-known : goal.returns-clause-known
returns-clause-known g c =
    let was = ap (λ (s : Sealed). s.boards.sizes) c.in-Ok-new.ensures.0 ∙ ap (λ b. b.sizes) c.in-Ok-Ok.ensures.opening
    ∙ ap sizes_of c.roster.ensures in
    sizes_by c.name_opening.result (λ w. w.desk.shown.value) (λ w. w.desk.place.me.0.client) _ _ was c.name_opening.ensures.shown
    c.name_opening.ensures.named
