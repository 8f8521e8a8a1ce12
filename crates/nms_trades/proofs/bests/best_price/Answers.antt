-- `best_price`: the first protected row in rank order, by `found_here`; none if no row is left, by `none_past`.
use Rattle.std.specs.Prelude.{option_map}
use Rattle.std.proofs.Common.{ℕ, ◌≡◌, ◌≤◌, ◌∙◌, List, Some, ap, arith, length, refl, slice_get, sym}
use Rattle.nms_board.specs.Ranking.{ranked}
use Rattle.nms_board.specs.Shown.{rows_held}
use Rattle.nms_board.specs.declared.row.Row.{Row}
use Rattle.nms_board.proofs.Offered.{held_few, rows_read}
use Rattle.nms_trades.proofs.BestFacts.{found_here, none_here, none_past, side_rows}
use Rattle.nms_trades.proofs.bests.best_price.Goals as goal

pub loop-at-init : goal.loop-at-init
loop-at-init c = record {
  rows = side_rows c.args.board.now c.args.sym c.args.side c.shows_rows.ensures.bids c.shows_rows.ensures.offers;
  none = refl;
}

pub returns-in_default : goal.returns-in_default
returns-in_default c =
    let rows : List Row = rows_held c.args.board.now c.args.sym c.args.side in
    none_past c.args.side rows c.loop-at.at c.loop-at.invariant.rows c.in_default.ensures.there c.loop-at.invariant.none

pub loop-at-preserved : goal.loop-at-preserved
loop-at-preserved c =
    let rows : List Row = rows_held c.args.board.now c.args.sym c.args.side in
    let read : slice_get (ranked c.args.side rows) c.loop-at.at ≡ Some c.in-Some.row =
    sym (rows_read c.args.side rows c.loop-at.at c.loop-at.invariant.rows) ∙ sym c.ranked.ensures.ranked ∙ c.in-Some.is in
    record {
      rows = c.loop-at.invariant.rows;
      none = none_here (λ (row : Row). row.protected) (ranked c.args.side rows) c.loop-at.at c.in-Some.row read c.if-row.false
          c.loop-at.invariant.none;
    }

pub returns-then-row : goal.returns-then-row
returns-then-row c =
    let rows : List Row = rows_held c.args.board.now c.args.sym c.args.side in
    let read : slice_get (ranked c.args.side rows) c.loop-at.at ≡ Some c.in-Some.row =
    sym (rows_read c.args.side rows c.loop-at.at c.loop-at.invariant.rows) ∙ sym c.ranked.ensures.ranked ∙ c.in-Some.is in
    let found = found_here (λ (row : Row). row.protected) (ranked c.args.side rows) c.loop-at.at c.in-Some.row read c.if-row.true
    c.loop-at.invariant.none in
    ap (λ (price : ℕ). Some price) c.get.ensures.number ∙ ap (option_map (λ (row : Row). row.price)) (sym found)

pub returns : goal.returns
returns c =
    let rows : List Row = rows_held c.args.board.now c.args.sym c.args.side in
    let few = held_few c.args.board.now c.args.sym c.args.side in
    let past : length rows ≤ c.loop-at.at =
    omega (arith, few, c.parts-at-end.ensures.count, c.loop-at.auto.at-end, c.loop-at-test.false) in
    none_past c.args.side rows c.loop-at.at c.loop-at.invariant.rows past c.loop-at.invariant.none
