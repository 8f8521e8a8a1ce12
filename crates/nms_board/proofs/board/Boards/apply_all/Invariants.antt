-- `Boards::apply_all`: what holds in each turn of its loop: `after`, `stands`, `sizes` and `applied`.
use Rattle.std.proofs.Common.{◌≡◌, ◌+◌, ◌++◌, take, fold}
use Rattle.nms_quote.specs.Tape.{Tape}
use Rattle.nms_board.specs.Cells.{StandsFor, after}
use Rattle.nms_board.proofs.board.Boards.apply_all.Given as goal

-- the changes so far were applied
abbrev pub invariant-loop-change : goal.invariant-loop-change
invariant-loop-change l = record {
  after : l.self ≡ fold after l.fn.self (take l.change-index l.changes);
  stands : (tape : Tape) → StandsFor l.fn.self tape → StandsFor l.self (tape ++ take l.change-index l.changes);
  sizes : l.self.sizes ≡ l.fn.self.sizes;
  applied : l.self.applied ≡ l.fn.self.applied + l.change-index;
}
