-- `apply_all`: what holds in each turn of its loop: `stands`, `sizes` and `applied`.
use Rattle.std.proofs.Common.{◌≡◌, ◌+◌, ◌++◌, take}
use Rattle.nms_quote.specs.Tape.{Tape}
use Rattle.nms_board.specs.Cells.{StandsFor}
use Rattle.nms_flow.specs.Run.{changes_in}
use Rattle.nms_flow.proofs.flow.apply_all.Given as goal

-- the changes so far were applied
abbrev pub invariant-loop-marked : goal.invariant-loop-marked
invariant-loop-marked l = record {
  stands : (tape : Tape) → StandsFor l.fn.board tape → StandsFor l.board (tape ++ changes_in (take l.marked-index l.changes));
  sizes : l.board.sizes ≡ l.fn.board.sizes;
  applied : l.board.applied ≡ l.fn.board.applied + l.marked-index;
}
