-- `write_boards`: the board is of the roster, and what was written so far is safe.
use Rattle.std.proofs.Common.{◌≡◌, ◌-◌, length}
use Rattle.nms_show.specs.Safe.{IsSafe}
use Rattle.nms_show.specs.Written.{Adds}
use Rattle.nms_drawing.proofs.boards_lines.write_boards.Given as goal

abbrev pub invariant-loop-change : goal.invariant-loop-change
invariant-loop-change g l = record {
  tape : l.replay.tape.now ≡ l.wanted.tape.now;
  safe : Adds IsSafe (g.W.Write.contents l.fn.answers) (g.W.Write.contents l.answers);
}

abbrev pub decreases-loop-change : goal.decreases-loop-change
decreases-loop-change g l = length l.wanted.tape.now.changes.items - l.replay.board.applied
