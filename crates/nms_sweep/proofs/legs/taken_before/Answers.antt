-- taken_before: from the first row beyond the cutoff on all rows are beyond it, by FrontLemmas: stop_at.
use Rattle.std.proofs.Common.{arith, List, sym, ◌∙◌}
use Rattle.std.proofs.lemmas.Grind.{common_steps}
use Rattle.nms_rules.specs.Usable.{Usable}
use Rattle.nms_rules.proofs.Offered.{lt-true}
use Rattle.nms_sweep.proofs.FrontLemmas.{stop_at}
use Rattle.nms_sweep.proofs.legs.taken_before.Goals as goal

pub returns-then-is_beyond-clause-stop : goal.returns-then-is_beyond-clause-stop
returns-then-is_beyond-clause-stop c =
    let rows : List Usable = c.args.rows.now in
    let row : Usable = c.index-rows-at.result in
    stop_at c.args.cutoff rows c.loop-at.at row c.requires.ordered c.loop-at-test.true c.index-rows-at.is
    (lt-true c.args.cutoff row.rank (sym c.is_beyond.ensures ∙ c.if-is_beyond.true))

-- ---- goals that `grind` closes; the search that is tried before it takes longer

pub slice_bounds-result-end : goal.slice_bounds-result-end
slice_bounds-result-end c = grind (arith, common_steps)

pub returns-then-is_beyond-clause-few : goal.returns-then-is_beyond-clause-few
returns-then-is_beyond-clause-few c = grind (arith, common_steps)

pub returns-clause-sum : goal.returns-clause-sum
returns-clause-sum c = grind (arith, common_steps)
