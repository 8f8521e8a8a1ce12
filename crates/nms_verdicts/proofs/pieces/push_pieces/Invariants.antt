-- `push_pieces`: what holds in each turn of its loop, and why it ends.
use Rattle.std.proofs.Common.{◌-◌, length}
use Rattle.nms_verdicts.proofs.PieceFacts.{Taken}
use Rattle.nms_verdicts.proofs.pieces.push_pieces.Given as goal

-- the pieces of the lines so far were taken
abbrev pub invariant-loop-start : goal.invariant-loop-start
invariant-loop-start l = Taken l.text l.fn.pieces.items l.pieces.items l.start l.line l.begun

-- the bytes that are left
abbrev pub decreases-loop-start : goal.decreases-loop-start
decreases-loop-start l = length l.text - l.start
