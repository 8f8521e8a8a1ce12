-- `through_at`: those found so far.
use Rattle.std.proofs.Common.{◌≡◌, ◌≤◌, length, take}
use Rattle.nms_calls.specs.RowNumbers.{through_at}
use Rattle.nms_calls.proofs.side_writing.through_at.Given as goal

abbrev pub invariant-loop-row : goal.invariant-loop-row
invariant-loop-row l = (l.through.items ≡ through_at l.side l.millionths (take l.row-index l.rows)) × (length l.through.items ≤ l.row-index)
