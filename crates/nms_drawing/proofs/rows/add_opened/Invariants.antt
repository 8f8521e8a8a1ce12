-- `add_opened`: the symbols so far and those that are left are all of them.
use Rattle.std.proofs.Common.{◌≡◌, ◌++◌, ◌∷◌, [], ◌-◌, drop, map, length}
use Rattle.std.specs.List.{flat_map, range_with_len}
use Rattle.nms_drawing.specs.Rows.{best_between, lot_row, of_symbols, opened_best, opened_board, opened_lots, part_if_shown}
use Rattle.nms_drawing.proofs.rows.add_opened.Given as goal

abbrev pub invariant-loop-place : goal.invariant-loop-place
invariant-loop-place l = record {
  best : l.rows.best.items ++ of_symbols l.window (best_between l.window l.opening l.board) (range_with_len l.place (l.place-end - l.place))
      ≡ l.fn.rows.best.items ++ opened_best l.window l.opening l.board;
  board : l.rows.board.items ++ of_symbols l.window (λ day sym. flat_map (part_if_shown l.window l.board day sym)
      (range_with_len 0 l.board.sizes.parts))
      (range_with_len l.place (l.place-end - l.place)) ≡ l.fn.rows.board.items ++ opened_board l.window l.board;
  lots : l.rows.lots.items ++ of_symbols l.window (λ day sym. lot_row l.window l.board day sym ∷ [])
      (range_with_len l.place (l.place-end - l.place))
      ≡ l.fn.rows.lots.items ++ opened_lots l.window l.board;
}
