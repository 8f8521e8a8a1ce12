-- `put_through`: the turns of its loop, by `through_more`.
use Rattle.std.proofs.Common.{ℕ, ◌≡◌, List, [], length, ap, sym, ◌∙◌, subst, arith}
use Rattle.std.proofs.lemmas.Grind.{common_steps}
use Rattle.std.proofs.lemmas.List.{length-append}
use Rattle.std.specs.List.{cons_option}
use Rattle.nms_board.specs.Shown.{row_held}
use Rattle.nms_board.specs.declared.row.Row.{Row}
use Rattle.nms_calls.specs.RowNumbers.{AreRowsAt, through_at}
use Rattle.nms_calls.proofs.ThroughLemmas.{through_first, through_more}
use Rattle.nms_calls.proofs.side_writing.put_through.Goals as goal

pub loop-place-preserved : goal.loop-place-preserved
loop-place-preserved c =
    let board = c.args.board.now in
    let side = c.args.side in
    let millionths = c.args.millionths in
    let place : ℕ = c.loop-place.place in
    let part : c.unwrap.result ≡ place = grind (arith, common_steps) in
    let row : through_at side millionths (cons_option c.row_beyond-row.result [])
    ≡ through_at side millionths (cons_option (row_held board c.args.sym side place) []) =
    c.row_beyond-row.ensures ∙ ap (λ n. through_at side millionths (cons_option (row_held board c.args.sym side n) [])) part in
    let before : List Row = through_first board c.args.sym side millionths place in
    let one : List Row = through_at side millionths (cons_option (row_held board c.args.sym side place) []) in
    let more = through_more board c.args.sym side millionths place in
    record {
      count = rw row at c.put_next-count.ensures.count
          ∙ omega (arith, c.loop-place.invariant.count, length-append before one, ap length more);
      within = omega (arith, c.put_next-count.ensures.within, c.loop-place.invariant.within);
      rows = subst (AreRowsAt c.put_next-count.new.places) more
          (rw row at (c.put_next-count.ensures.rows before (sym c.loop-place.invariant.count) c.loop-place.invariant.rows));
    }
