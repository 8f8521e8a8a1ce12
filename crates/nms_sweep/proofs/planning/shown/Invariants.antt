-- shown: the sum over the rows so far, by total_more.
use Rattle.std.proofs.Common.{◌≡◌, ◌≤◌, ◌*◌, take}
use Rattle.nms_rules.specs.declared.TheConstants.{MOST_SIZE}
use Rattle.nms_rules.specs.Assignment.{total}
use Rattle.nms_rules.specs.Usable.{Usable}
use Rattle.nms_sweep.proofs.planning.shown.Given as goal

abbrev pub invariant-loop-row : goal.invariant-loop-row
invariant-loop-row l = record {
  sum : l.sum ≡ total (λ (row : Usable). row.size) (take l.row-index l.rows);
  within : l.sum ≤ l.row-index * MOST_SIZE;
}
