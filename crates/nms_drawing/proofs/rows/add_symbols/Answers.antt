-- `add_symbols`: each turn adds a symbol, by `turn_at`.
use Rattle.std.proofs.Common.{◌≡◌, ◌++◌, ◌∷◌, [], ℕ, List, ap, length, ◌∙◌, arith}
use Rattle.std.proofs.lemmas.Grind.{common_steps}
use Rattle.std.specs.List.{flat_map, range_with_len}
use Rattle.nms_drawing.specs.Rows.{best_between, day_of, lots_after, of_symbols, on_day, parts_after}
use Rattle.nms_drawing.proofs.RowLemmas.{turn_at}
use Rattle.nms_drawing.proofs.rows.add_symbols.Goals as goal

pub loop-place-preserved : goal.loop-place-preserved
loop-place-preserved c =
    let place : c.unwrap.result ≡ c.loop-place.place = grind (arith, common_steps) in
    let window = c.args.window.now in
    let was = c.args.step.now.was.now in
    let board = c.args.step.now.board.now in
    let change = c.args.step.now.change.now in
    let all = length window.days.now in
    let had = c.loop-place.invariant in
    let added = c.in_ok-add_symbol.ensures in
    record {
      best = turn_at c.loop-place.rows.best.items
          (c.args.rows.now.best.items ++ of_symbols window (best_between window was board) (range_with_len 0 all)) c.add_symbol.new.rows.best.items
          (λ (sym : ℕ). on_day (λ day. best_between window was board day sym) (day_of window sym))
          c.unwrap.result c.loop-place.place all place c.loop-place-test.true added.best had.best;
      board = turn_at c.loop-place.rows.board.items
          (c.args.rows.now.board.items ++ of_symbols window (parts_after window board change) (range_with_len 0 all))
          c.add_symbol.new.rows.board.items
          (λ (sym : ℕ). on_day (λ day. parts_after window board change day sym) (day_of window sym))
          c.unwrap.result c.loop-place.place all place c.loop-place-test.true added.board had.board;
      lots = turn_at c.loop-place.rows.lots.items
          (c.args.rows.now.lots.items ++ of_symbols window (lots_after window board change) (range_with_len 0 all)) c.add_symbol.new.rows.lots.items
          (λ (sym : ℕ). on_day (λ day. lots_after window board change day sym) (day_of window sym))
          c.unwrap.result c.loop-place.place all place c.loop-place-test.true added.lots had.lots;
    }
