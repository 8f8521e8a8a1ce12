-- `add_changes`: the rows so far and those of the changes that are left are those of all changes.
use Rattle.std.proofs.Common.{◌≡◌, ◌+◌, ◌≤◌, ◌++◌, drop, length}
use Rattle.nms_quote.specs.declared.TheConstants.{MOST_CHANGES}
use Rattle.nms_drawing.specs.Rows.{along, best_rows, board_rows, lot_rows}
use Rattle.nms_drawing.proofs.rows.add_changes.Given as goal

abbrev pub invariant-loop-change : goal.invariant-loop-change
invariant-loop-change l = record {
  same : l.was ≡ l.board;
  sizes : l.board.sizes ≡ l.fn.board.sizes;
  room : l.board.applied + length (drop l.change-index l.changes) ≤ MOST_CHANGES;
  best : l.rows.best.items ++ along (best_rows l.window) l.board (drop l.change-index l.changes)
      ≡ l.fn.rows.best.items ++ along (best_rows l.window) l.fn.board l.changes;
  board : l.rows.board.items ++ along (board_rows l.window) l.board (drop l.change-index l.changes)
      ≡ l.fn.rows.board.items ++ along (board_rows l.window) l.fn.board l.changes;
  lots : l.rows.lots.items ++ along (lot_rows l.window) l.board (drop l.change-index l.changes)
      ≡ l.fn.rows.lots.items ++ along (lot_rows l.window) l.fn.board l.changes;
}
