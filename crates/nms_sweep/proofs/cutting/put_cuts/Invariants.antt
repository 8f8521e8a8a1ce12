-- put_cuts: the cuts so far and those of the cutoffs to come are all cuts, and the same holds of the choice.
use Rattle.std.proofs.Common.{◌≡◌, ◌≤◌, ◌+◌, ◌++◌, All, None, length, map}
use Rattle.nms_board.specs.declared.TheConstants.{MOST_ROWS}
use Rattle.nms_quote.specs.declared.certificate.Cut.{Cut}
use Rattle.nms_sweep.specs.Choice.{IsInRange, chosen, cut_by}
use Rattle.nms_sweep.specs.Cutoffs.{IsCutoffOf}
use Rattle.nms_sweep.specs.Passed.{IsPassed, coming}
use Rattle.nms_sweep.specs.declared.cutoffs.Cutoff.{Cutoff}
use Rattle.nms_sweep.proofs.cutting.put_cuts.Given as goal

abbrev pub invariant-loop-cutoff : goal.invariant-loop-cutoff
invariant-loop-cutoff g l = record {
  filled : g.W.PlanRoom.IsFilled l.out;
  legs : g.W.PlanRoom.legs l.out ≡ g.W.PlanRoom.legs l.fn.out;
  passed : IsPassed l.rows l.passed;
  cuts : map (cut_by l.side l.by_cost l.most) (coming l.rows l.fn.passed)
      ≡ g.W.PlanRoom.cuts l.out ++ map (cut_by l.side l.by_cost l.most) (coming l.rows l.passed);
  best : chosen l.side l.by_cost l.most None (map (cut_by l.side l.by_cost l.most) (coming l.rows l.fn.passed))
      ≡ chosen l.side l.by_cost l.most l.best (map (cut_by l.side l.by_cost l.most) (coming l.rows l.passed));
  range : All (λ (cut : Cut). IsInRange cut.kind) (g.W.PlanRoom.cuts l.out);
  sums : All (λ (cutoff : Cutoff). cutoff.swept ≤ l.most → IsCutoffOf l.side l.by_cost cutoff) (coming l.rows l.passed);
  room : length (g.W.PlanRoom.cuts l.out) + length (coming l.rows l.passed) ≤ MOST_ROWS;
}

abbrev pub decreases-loop-cutoff : goal.decreases-loop-cutoff
decreases-loop-cutoff g l = length (coming l.rows l.passed)
