-- `falls`: what holds in each turn of its loop.
use Rattle.std.proofs.Common.{◌≡◌, length}
use Rattle.nms_board.specs.Given.{falls}
use Rattle.nms_board.proofs.given.falls.Given as goal

abbrev pub invariant-loop-row : goal.invariant-loop-row
invariant-loop-row l = falls l.side l.fn.rows ≡ falls l.side l.behind

abbrev pub decreases-loop-row : goal.decreases-loop-row
decreases-loop-row l = length l.behind
