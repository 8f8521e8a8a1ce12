-- `bests_of`: the tape stays, and each symbol has its track so far.
use Rattle.std.proofs.Common.{◌≡◌, ◌-◌, length}
use Rattle.nms_stream.specs.Tapes.{sizes_in}
use Rattle.nms_trades.specs.Bests.{AreBests}
use Rattle.nms_trades.proofs.bests.bests_of.Given as goal

abbrev pub invariant-loop-change : goal.invariant-loop-change
invariant-loop-change l = record {
  tape : l.replay.tape.now ≡ l.fn.tape;
  count : length l.bests.items ≡ length (sizes_in l.fn.tape).lots;
  bests : AreBests (sizes_in l.fn.tape) l.fn.tape.changes.items l.replay.board.applied l.bests.items;
}

abbrev pub decreases-loop-change : goal.decreases-loop-change
decreases-loop-change l = length l.fn.tape.changes.items - l.replay.board.applied
