-- `add_opened`: each turn adds a symbol, by `turn_at`.
use Rattle.std.proofs.Common.{◌≡◌, ◌++◌, ◌∷◌, [], ℕ, List, ap, length, ◌∙◌, arith}
use Rattle.std.proofs.lemmas.Grind.{common_steps}
use Rattle.std.specs.List.{flat_map, range_with_len}
use Rattle.nms_drawing.specs.Rows.{best_between, day_of, lot_row, on_day, opened_best, opened_board, opened_lots, part_if_shown}
use Rattle.nms_drawing.proofs.RowLemmas.{turn_at}
use Rattle.nms_drawing.proofs.rows.add_opened.Goals as goal

pub loop-place-preserved : goal.loop-place-preserved
loop-place-preserved c =
    let place : c.unwrap.result ≡ c.loop-place.place = grind (arith, common_steps) in
    let window = c.args.window.now in
    let board = c.args.board.now in
    let all = length window.days.now in
    let had = c.loop-place.invariant in
    let added = c.in_ok-add_opened_symbol.ensures in
    record {
      best = turn_at c.loop-place.rows.best.items (c.args.rows.now.best.items ++ opened_best window c.args.opening.now board)
          c.add_opened_symbol.new.rows.best.items (λ (sym : ℕ). on_day (λ day. best_between window c.args.opening.now board day sym)
          (day_of window sym))
          c.unwrap.result c.loop-place.place all place c.loop-place-test.true added.best had.best;
      board = turn_at c.loop-place.rows.board.items (c.args.rows.now.board.items ++ opened_board window board)
          c.add_opened_symbol.new.rows.board.items
          (λ (sym : ℕ). on_day (λ day. flat_map (part_if_shown window board day sym) (range_with_len 0 board.sizes.parts)) (day_of window sym))
          c.unwrap.result c.loop-place.place all place c.loop-place-test.true added.board had.board;
      lots = turn_at c.loop-place.rows.lots.items (c.args.rows.now.lots.items ++ opened_lots window board) c.add_opened_symbol.new.rows.lots.items
          (λ (sym : ℕ). on_day (λ day. lot_row window board day sym ∷ []) (day_of window sym))
          c.unwrap.result c.loop-place.place all place c.loop-place-test.true added.lots had.lots;
    }
