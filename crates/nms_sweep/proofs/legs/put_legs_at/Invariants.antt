-- put_legs_at: the legs so far and those of the later rows are all legs, by what legs_of unfolds to.
use Rattle.std.proofs.Common.{◌≡◌, ◌≤◌, ◌+◌, ◌++◌, length}
use Rattle.nms_sweep.specs.Choice.{legs_of}
use Rattle.nms_board.specs.declared.TheConstants.{MOST_ROWS}
use Rattle.nms_sweep.proofs.legs.put_legs_at.Given as goal

abbrev pub invariant-loop-row : goal.invariant-loop-row
invariant-loop-row g l = record {
  filled : g.W.PlanRoom.IsFilled l.out;
  cuts : g.W.PlanRoom.cuts l.out ≡ g.W.PlanRoom.cuts l.fn.out;
  legs : legs_of l.cutoff l.marginal l.fn.left l.rows ≡ g.W.PlanRoom.legs l.out ++ legs_of l.cutoff l.marginal l.left l.behind;
  room : length (g.W.PlanRoom.legs l.out) + length l.behind ≤ MOST_ROWS;
}

abbrev pub decreases-loop-row : goal.decreases-loop-row
decreases-loop-row g l = length l.behind
