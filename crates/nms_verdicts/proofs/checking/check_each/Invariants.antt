-- `check_each`: what holds in each turn of its loop.
use Rattle.std.proofs.Common.{◌≡◌, take}
use Rattle.nms_verdicts.specs.Begun.{texts_of}
use Rattle.nms_verdicts.specs.Checked.{AreCounts}
use Rattle.nms_verdicts.proofs.checking.check_each.Given as goal

-- the tape stays, and the pieces so far were counted
abbrev pub invariant-loop-piece : goal.invariant-loop-piece
invariant-loop-piece g l = record {
  tape : l.replay.tape ≡ l.fn.replay.tape;
  counts : AreCounts l.replay.tape.now.setup.now l.replay.tape.now.changes.items (texts_of (take l.piece-index l.pieces)) l.counts;
}
