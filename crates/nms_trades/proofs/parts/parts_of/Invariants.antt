-- `parts_of`: the tape stays, and each participant has its track in each symbol so far.
use Rattle.std.proofs.Common.{◌≡◌, ◌-◌, ◌*◌, length}
use Rattle.nms_board.specs.declared.TheConstants.{MOST_ROWS}
use Rattle.nms_stream.specs.Tapes.{sizes_in}
use Rattle.nms_trades.specs.Parts.{AreParts}
use Rattle.nms_trades.proofs.parts.parts_of.Given as goal

abbrev pub invariant-loop-change : goal.invariant-loop-change
invariant-loop-change l = record {
  tape : l.replay.tape.now ≡ l.fn.tape;
  count : length l.tracks.items ≡ MOST_ROWS * length (sizes_in l.fn.tape).lots;
  parts : AreParts (sizes_in l.fn.tape) l.fn.tape.changes.items l.replay.board.applied l.tracks.items;
}

abbrev pub decreases-loop-change : goal.decreases-loop-change
decreases-loop-change l = length l.fn.tape.changes.items - l.replay.board.applied
