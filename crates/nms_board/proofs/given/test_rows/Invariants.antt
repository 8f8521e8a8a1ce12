-- `test_rows`: what holds in each turn of its loop.
use Rattle.std.proofs.Common.{◌≡◌, length}
use Rattle.nms_board.specs.Given.{are_rows}
use Rattle.nms_board.proofs.given.test_rows.Given as goal

abbrev pub invariant-loop-row : goal.invariant-loop-row
invariant-loop-row l = are_rows l.fn.rows ≡ are_rows l.behind

abbrev pub decreases-loop-row : goal.decreases-loop-row
decreases-loop-row l = length l.behind
