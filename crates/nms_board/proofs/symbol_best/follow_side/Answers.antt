-- `follow_side`: its clause if the row stays, by `same_first` and `row_at_first`.
use Rattle.std.proofs.Common.{arith, ◌≡◌, ◌≢◌, ℕ, ap, subst, ◌∙◌}
use Rattle.std.proofs.lemmas.Grind.{common_steps}
use Rattle.nms_board.specs.Ranks.{first_place, row_among}
use Rattle.nms_board.proofs.BestLemmas.{nobody_among, row_at_first, same_first}
use Rattle.nms_board.proofs.symbol_best.follow_side.Goals as goal

pub returns-else-first-was : goal.returns-else-first-was
returns-else-first-was c =
    let both = same_first c.first-first.result c.args.was c.get.result c.if-first-was.false in
    let same : c.args.was ≡ first_place c.args.order.now = both.0 ∙ c.first-first.ensures in
    let other : c.args.was ≢ c.args.part = subst (λ (n : ℕ). c.args.was ≢ n) c.get.ensures.place both.1 in
    c.requires.others other ∙ ap (row_among c.args.lot c.args.cells.now c.args.side) same
    ∙ row_at_first (row_among c.args.lot c.args.cells.now c.args.side) c.args.order.now
    (nobody_among c.args.lot c.args.cells.now c.args.side c.requires.parts)

-- ---- goals that `grind` closes; the search that is tried before it takes longer

pub returns-then-first-was : goal.returns-then-first-was
returns-then-first-was c = grind (arith, common_steps)
