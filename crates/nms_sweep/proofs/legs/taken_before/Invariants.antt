-- taken_before: the sums over the rows so far, by total_more.
use Rattle.std.proofs.Common.{◌≡◌, ◌≤◌, ◌+◌, ◌*◌, take}
use Rattle.nms_rules.specs.Cutoff.{swept}
use Rattle.nms_sweep.specs.Choice.{below}
use Rattle.nms_sweep.proofs.legs.taken_before.Given as goal

abbrev pub invariant-loop-at : goal.invariant-loop-at
invariant-loop-at l = record {
  sum : l.sum ≡ swept l.cutoff (take l.at l.rows) + below l.cutoff l.marginal (take l.at l.rows);
  within : l.sum ≤ l.at * 8589934590;
}
