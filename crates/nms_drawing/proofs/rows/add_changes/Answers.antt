-- `add_changes`: each turn adds a change, by `next_change`.
use Rattle.std.proofs.Common.{◌≡◌, ◌+◌, ◌++◌, ◌∷◌, ℕ, List, ap, drop, length, sym, ◌∙◌, arith}
use Rattle.std.proofs.lemmas.List.{drop_more}
use Rattle.nms_quote.specs.Tape.{Tape}
use Rattle.nms_quote.specs.declared.change.Change.{Change}
use Rattle.nms_board.specs.Cells.{Board, after}
use Rattle.nms_drawing.specs.Rows.{along, best_rows, board_rows, lot_rows}
use Rattle.nms_drawing.proofs.RowLemmas.{next_change}
use Rattle.nms_drawing.proofs.rows.add_changes.Goals as goal

pub loop-change-preserved : goal.loop-change-preserved
loop-change-preserved c =
    let tape = c.args.changes.now in
    let window = c.args.window.now in
    let place = c.loop-change.change-index in
    let change : Change = c.change-item.result in
    let before : Board = c.loop-change.board in
    let board : Board = c.apply.new.self in
    let had = c.loop-change.invariant in
    let there : drop place tape ≡ change ∷ drop (place + 1) tape =
    drop_more tape place change c.loop-change-test.true ∙ ap (λ (x : Change). x ∷ drop (place + 1) tape) (sym c.change-item.is) in
    let moved : board ≡ after before change = c.apply.ensures.after in
    let added = c.in_ok-add_change.ensures in
    record {
      same = c.apply-in-loop-change.ensures.after ∙ ap (λ (b : Board). after b change) had.same ∙ sym moved;
      sizes = ap (λ (b : Board). b.sizes) moved ∙ had.sizes;
      room = omega (arith, had.room, ap (λ (b : Board). b.applied) moved, ap (λ (rest : Tape). length rest) there);
      best = next_change (best_rows window) c.loop-change.rows.best.items
          (c.args.rows.now.best.items ++ along (best_rows window) c.args.board.now tape) c.add_change.new.rows.best.items before board tape place
          change
          there moved (added.best ∙ ap (λ (b : Board). c.loop-change.rows.best.items ++ best_rows window b board change) had.same) had.best;
      board = next_change (board_rows window) c.loop-change.rows.board.items
          (c.args.rows.now.board.items ++ along (board_rows window) c.args.board.now tape) c.add_change.new.rows.board.items before board tape place
          change there moved (added.board ∙ ap (λ (b : Board). c.loop-change.rows.board.items ++ board_rows window b board change) had.same)
          had.board;
      lots = next_change (lot_rows window) c.loop-change.rows.lots.items
          (c.args.rows.now.lots.items ++ along (lot_rows window) c.args.board.now tape) c.add_change.new.rows.lots.items before board tape place
          change
          there moved (added.lots ∙ ap (λ (b : Board). c.loop-change.rows.lots.items ++ lot_rows window b board change) had.same) had.lots;
    }
