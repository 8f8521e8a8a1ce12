-- `put_usable_rows`: its loop begins with no row, of rows as a side shows them, by `side_rows`; a turn has one row more, by
-- `held_more`; all usable rows are there when no row is left, by `held_all`, and when the next one is beyond the limit, by
-- `held_beyond`; they are best price first, by `first_fall`.
use Rattle.std.proofs.Common.{ℕ, ◌≡◌, ◌≤◌, ◌++◌, [], ◌∷◌, List, Some, true, length, slice_get, ap, sym, ◌∙◌, subst, arith}
use Rattle.std.proofs.lemmas.List.Sorted.{IsPermutation-refl}
use Rattle.nms_quote.specs.Terms.{Terms}
use Rattle.nms_quote.specs.declared.side_quote.Side.{Side}
use Rattle.nms_board.specs.Ranking.{ranked, ranked_at}
use Rattle.nms_board.specs.Shown.{rows_held}
use Rattle.nms_board.specs.View.{AreRows}
use Rattle.nms_board.specs.declared.row.Row.{Row}
use Rattle.nms_board.proofs.Offered.{held_few, rows_read}
use Rattle.nms_rules.specs.Usable.{Usable, contra, is_better}
use Rattle.nms_rules.proofs.HeldLemmas.{first_fall, held_all, held_beyond, held_more, held_shown, side_rows, usable_among}
use Rattle.nms_rules.proofs.usable_row.put_usable_rows.Goals as goal

-- what holds of a symbol and the side that an order trades with holds of the order's own
at_order : (P : ℕ → Side → Type 0) {inside order : Terms} (side : Side) → inside ≡ order → side ≡ contra inside.side → P inside.sym side
    → P order.sym (contra order.side)
at_order P {inside = inside} side view_is side_is holds =
    subst (λ (one : Terms). P one.sym (contra one.side)) view_is (subst (P inside.sym) side_is holds)

pub loop-at-init : goal.loop-at-init
loop-at-init c = record {
  rows = at_order (λ n side. AreRows (rows_held c.args.board.now n side)) c.contra-side.result c.order.view_is c.contra-side.ensures
      (side_rows c.args.board.now c.order.inside.sym c.contra-side.result c.shows_rows.ensures.bids c.shows_rows.ensures.offers);
  items = c.clear.ensures;
  within = omega (arith, ap length c.clear.ensures);
}

pub loop-at-preserved : goal.loop-at-preserved
loop-at-preserved c =
    let board = c.args.board.now in
    let order : Terms = c.args.order.now in
    let side : Side = contra order.side in
    let rows : List Row = rows_held board order.sym side in
    let at = at_order (λ n side. c.ranked.result ≡ ranked_at side (rows_held board n side) c.loop-at.at) c.contra-side.result
    c.order.view_is c.contra-side.ensures c.ranked.ensures.ranked in
    let read : slice_get (ranked side rows) c.loop-at.at ≡ Some c.in-Some.row =
    sym (rows_read side rows c.loop-at.at c.loop-at.invariant.rows) ∙ sym at ∙ c.in-Some.is in
    record {
      rows = c.loop-at.invariant.rows;
      items = c.put_usable.ensures.rows
          ∙ ap (λ (before : List Usable). before ++ usable_among order c.args.fees.now (c.in-Some.row ∷ [])) c.loop-at.invariant.items
          ∙ sym (held_more order c.args.fees.now (ranked side rows) c.loop-at.at c.in-Some.row read);
      within = omega (arith, c.put_usable.ensures.count, c.loop-at.invariant.within);
    }

pub returns-in_default-clause-same : goal.returns-in_default-clause-same
returns-in_default-clause-same c =
    let board = c.args.board.now in
    let order : Terms = c.args.order.now in
    let rows : List Row = rows_held board order.sym (contra order.side) in
    let past : length rows ≤ c.loop-at.at =
    at_order (λ n side. length (rows_held board n side) ≤ c.loop-at.at) c.contra-side.result c.order.view_is c.contra-side.ensures
    c.in_default.ensures.there in
    rw c.loop-at.invariant.items
    (held_shown board order c.args.fees.now _ _
    (held_all order c.args.fees.now (contra order.side) rows c.loop-at.at c.loop-at.invariant.rows past) (IsPermutation-refl _))

pub returns-in_default-clause-ordered : goal.returns-in_default-clause-ordered
returns-in_default-clause-ordered c =
    rw c.loop-at.invariant.items
    (first_fall c.args.order.now c.args.fees.now (rows_held c.args.board.now c.args.order.now.sym (contra c.args.order.now.side)) c.loop-at.at
    c.loop-at.invariant.rows)

pub returns-then-is_better-clause-same : goal.returns-then-is_better-clause-same
returns-then-is_better-clause-same c =
    let board = c.args.board.now in
    let order : Terms = c.args.order.now in
    let rows : List Row = rows_held board order.sym (contra order.side) in
    let at = at_order (λ n side. c.ranked.result ≡ ranked_at side (rows_held board n side) c.loop-at.at) c.contra-side.result
    c.order.view_is c.contra-side.ensures c.ranked.ensures.ranked in
    let beyond = subst (λ (one : Terms). is_better one.side one.limit c.in-Some.row.price ≡ true) c.order.view_is
    (sym c.if-is_better.ensures) in
    rw c.loop-at.invariant.items
    (held_shown board order c.args.fees.now _ _
    (held_beyond order c.args.fees.now rows c.loop-at.at c.in-Some.row c.loop-at.invariant.rows (sym at ∙ c.in-Some.is) beyond)
    (IsPermutation-refl _))

pub returns-then-is_better-clause-ordered : goal.returns-then-is_better-clause-ordered
returns-then-is_better-clause-ordered c =
    rw c.loop-at.invariant.items
    (first_fall c.args.order.now c.args.fees.now (rows_held c.args.board.now c.args.order.now.sym (contra c.args.order.now.side)) c.loop-at.at
    c.loop-at.invariant.rows)

pub returns-clause-same : goal.returns-clause-same
returns-clause-same c =
    let board = c.args.board.now in
    let order : Terms = c.args.order.now in
    let rows : List Row = rows_held board order.sym (contra order.side) in
    let few = held_few board order.sym (contra order.side) in
    let past : length rows ≤ c.loop-at.at =
    omega (arith, few, c.parts-at-end.ensures.count, c.loop-at.auto.at-end, c.loop-at-test.false) in
    rw c.loop-at.invariant.items
    (held_shown board order c.args.fees.now _ _
    (held_all order c.args.fees.now (contra order.side) rows c.loop-at.at c.loop-at.invariant.rows past) (IsPermutation-refl _))

pub returns-clause-ordered : goal.returns-clause-ordered
returns-clause-ordered c =
    rw c.loop-at.invariant.items
    (first_fall c.args.order.now c.args.fees.now (rows_held c.args.board.now c.args.order.now.sym (contra c.args.order.now.side)) c.loop-at.at
    c.loop-at.invariant.rows)
