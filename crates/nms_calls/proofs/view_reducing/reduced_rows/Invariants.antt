-- `reduced_rows`: what is left of the rows so far.
use Rattle.std.proofs.Common.{◌≡◌, ◌≤◌, length, take}
use Rattle.nms_calls.specs.ViewReduced.{reduced_rows}
use Rattle.nms_calls.proofs.view_reducing.reduced_rows.Given as goal

abbrev pub invariant-loop-row : goal.invariant-loop-row
invariant-loop-row l = record {
  items : l.left.items ≡ reduced_rows l.most (take l.row-index l.rows);
  few : length l.left.items ≤ l.row-index;
}
