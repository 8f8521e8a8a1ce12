-- `add_symbols`: the symbols so far and those that are left are all of them.
use Rattle.std.proofs.Common.{◌≡◌, ◌++◌, ◌∷◌, [], ◌-◌, drop, map, length}
use Rattle.std.specs.List.{flat_map, range_with_len}
use Rattle.nms_drawing.specs.Rows.{best_between, lots_after, of_symbols, parts_after}
use Rattle.nms_drawing.proofs.rows.add_symbols.Given as goal

abbrev pub invariant-loop-place : goal.invariant-loop-place
invariant-loop-place l = record {
  best : l.rows.best.items ++ of_symbols l.window (best_between l.window l.step.was.now l.step.board.now)
      (range_with_len l.place (l.place-end - l.place))
      ≡ l.fn.rows.best.items ++ of_symbols l.window (best_between l.window l.step.was.now l.step.board.now)
      (range_with_len 0 (length l.window.days.now));
  board : l.rows.board.items ++ of_symbols l.window (parts_after l.window l.step.board.now l.step.change.now)
      (range_with_len l.place (l.place-end - l.place))
      ≡ l.fn.rows.board.items ++ of_symbols l.window (parts_after l.window l.step.board.now l.step.change.now)
      (range_with_len 0 (length l.window.days.now));
  lots : l.rows.lots.items ++ of_symbols l.window (lots_after l.window l.step.board.now l.step.change.now)
      (range_with_len l.place (l.place-end - l.place))
      ≡ l.fn.rows.lots.items ++ of_symbols l.window (lots_after l.window l.step.board.now l.step.change.now)
      (range_with_len 0 (length l.window.days.now));
}
