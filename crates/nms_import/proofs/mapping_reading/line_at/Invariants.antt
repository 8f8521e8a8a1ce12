-- `line_at`: what holds in each turn of its loop.
use Rattle.std.proofs.Common.{◌≤◌, ◌+◌}
use Rattle.nms_import.proofs.mapping_reading.line_at.Given as goal

-- no more lines than bytes, and one
abbrev pub invariant-loop-at : goal.invariant-loop-at
invariant-loop-at l = l.line ≤ l.at + 1
