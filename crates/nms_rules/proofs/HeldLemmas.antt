-- The rows that a board holds: the usable ones among the first in rank order, and what is read by participant place.
use Rattle.std.proofs.Common.{ℕ, zero, suc, ◌≡◌, ◌+◌, ◌==◌, ◌<◌, ◌≤◌, ◌&&◌, Bool, true, false, not, cond, List, [], ◌∷◌, ◌++◌, Option, Some, None}
use Rattle.std.proofs.Common.{length, map, take, drop, get_or, slice_get, refl, sym, ap, ◌∙◌, subst, arith, add-zero, ◌⊎◌, inl, inr}
use Rattle.std.specs.Prelude.{All, AllPairs, nat_lt, slice_index, ◌≤ℤ◌}
use Rattle.std.specs.List.{cons_option, filter, filter_map, find, range_with_len}
use Rattle.std.specs.List.Sorted.{IsPermutation}
use Rattle.std.specs.Option.{option_and_then}
use Rattle.std.proofs.lemmas.Bool.{cases_Bool, eqb-false, eqb-true, eq-eqb, ltb-false, ne_eqb, or_parts}
use Rattle.std.proofs.lemmas.Int.{ints}
use Rattle.std.proofs.lemmas.List.{append-nil, get_or-drop, get_or-map, get_or-take, length-drop, length-map, length-take, map-append, map-id}
use Rattle.std.proofs.lemmas.List.{take-append-drop, take_all, take_more}
use Rattle.std.proofs.lemmas.List.Elements.{filter-append, filter_map-append}
use Rattle.std.proofs.lemmas.List.FromFn.{map-range_with_len_more}
use Rattle.std.proofs.lemmas.List.Kept.{AllPairs-filter}
use Rattle.std.proofs.lemmas.List.Sorted.{IsPermutation-map, IsPermutation-trans, length_permutation}
use Rattle.std.proofs.lemmas.Option.{get_or_from_slice_get, slice_get_within}
use Rattle.nms_units.specs.Lot.{displayed_size}
use Rattle.nms_quote.specs.Content.{Content}
use Rattle.nms_quote.specs.Terms.{Terms}
use Rattle.nms_quote.specs.declared.order.OrderSide.{OrderSide}
use Rattle.nms_quote.specs.declared.order.OrderSide.TheVariants.{Buy, Sell}
use Rattle.nms_quote.specs.declared.side_quote.Side.{Side}
use Rattle.nms_quote.specs.declared.side_quote.Side.TheVariants.{Bid, Offer}
use Rattle.nms_quote.specs.declared.side_quote.QState.{QState}
use Rattle.nms_board.specs.Cells.{Board, place_of}
use Rattle.nms_board.specs.History.{on_side}
use Rattle.nms_board.specs.Quotation.{is_halted, quotation}
use Rattle.nms_board.specs.Ranking.{IsRankOrder, ranked, ranked_at, ranks_above}
use Rattle.nms_board.specs.Shown.{row_held, row_of_cell, rows_held, seen_on}
use Rattle.nms_board.specs.View.{AreRows, rows_on}
use Rattle.nms_board.specs.declared.cell.Cell.{Cell}
use Rattle.nms_board.specs.declared.row.Row.{Row}
use Rattle.nms_board.proofs.Offered.{above_one_way, below_limit, passing_in_order, rows_in_order, rows_read}
use Rattle.nms_fee_book.specs.Fees.{Charges}
use Rattle.nms_rules.specs.Usable.{Usable, contra, is_allowed, is_better, is_usable, rank_of, usable, usable_row}

-- a look shows the rows that the board holds
pub rows_shown : (board : Board) (symbol : ℕ) (side : Side) → rows_on side (seen_on board symbol) ≡ rows_held board symbol side
rows_shown board symbol Bid = refl
rows_shown board symbol Offer = refl

-- ---- the usable ones, in rank order

-- the usable ones of some rows
abbrev pub usable_among : Terms → Charges → List Row → List Usable
usable_among order fees rows = map (usable_row order fees) (filter (is_usable order) rows)

-- those of one row more
pub held_more : (order : Terms) (fees : Charges) (rows : List Row) (at : ℕ) (row : Row) → slice_get rows at ≡ Some row
    → usable_among order fees (take (at + 1) rows)
    ≡ usable_among order fees (take at rows) ++ usable_among order fees (row ∷ [])
held_more order fees rows at row is =
    let more : take (at + 1) rows ≡ take at rows ++ row ∷ [] =
    take_more rows at row (slice_get_within rows at row is)
    ∙ ap (λ (last : Row). take at rows ++ last ∷ []) (get_or_from_slice_get rows at row row is) in
    ap (usable_among order fees) more
    ∙ ap (map (usable_row order fees)) (filter-append (is_usable order) (take at rows) (row ∷ []))
    ∙ map-append (usable_row order fees) (filter (is_usable order) (take at rows)) (filter (is_usable order) (row ∷ []))

-- if no row is left, they are the usable ones of the side
pub held_all : (order : Terms) (fees : Charges) (side : Side) (rows : List Row) (at : ℕ) → AreRows rows → length rows ≤ at
    → IsPermutation (usable_among order fees rows) (usable_among order fees (take at (ranked side rows)))
held_all order fees side rows at are past =
    let long = length_permutation rows (ranked side rows) (rows_in_order side rows are).same in
    rw (take_all at (ranked side rows) (omega (arith, long)))
    (IsPermutation-map (usable_row order fees) (filter (is_usable order) rows) (filter (is_usable order) (ranked side rows))
    (passing_in_order side (is_usable order) rows are))

-- if no row passes a test, none is kept
none_passes : (passes : Row → Bool) (rows : List Row) → All (λ row. passes row ≡ false) rows → filter passes rows ≡ []
none_passes passes [] all = refl
none_passes passes (row ∷ rows) all =
    let first : passes row ≡ false = all 0 row (omega arith) in
    rw first (none_passes passes rows (λ k d below. all (suc k) d (omega arith)))

-- a row beyond the limit is not usable
beyond_limit : (order : Terms) (row : Row) → is_better order.side order.limit row.price ≡ true → is_usable order row ≡ false
beyond_limit order row beyond = rw beyond (by (is_allowed order row))
  where
    by : (allowed : Bool) → (allowed && not true) ≡ false
    by true = refl
    by false = refl

-- nor is any after it in rank order
none_behind : (order : Terms) (rows in_order : List Row) (at : ℕ) (row : Row) → IsRankOrder (contra order.side) rows in_order
    → slice_get in_order at ≡ Some row → is_better order.side order.limit row.price ≡ true
    → All (λ other. is_usable order other ≡ false) (drop at in_order)
none_behind order rows in_order at row in_rank is beyond k d below =
    beyond_limit order (get_or (drop at in_order) k d)
    (rw (get_or-drop at in_order k d) (behind k (omega (arith, length-drop at in_order))))
  where
    first : get_or in_order at d ≡ row
    first = get_or_from_slice_get in_order at row d is

    behind : (k : ℕ) → at + k < length in_order → is_better order.side order.limit (get_or in_order (at + k) d).price ≡ true
    behind zero there = rw (add-zero, first) beyond
    behind (suc k) there =
        below_limit (contra order.side) order.limit row (get_or in_order (at + suc k) d)
        (subst (λ (r : Row). ranks_above (contra order.side) r (get_or in_order (at + suc k) d) ≡ true) first
        (in_rank.falling at (at + suc k) d (omega arith) there))
        beyond

-- so if the next row is beyond the limit, they are the usable ones of the side
pub held_beyond : (order : Terms) (fees : Charges) (rows : List Row) (at : ℕ) (row : Row) → AreRows rows
    → ranked_at (contra order.side) rows at ≡ Some row → is_better order.side order.limit row.price ≡ true
    → IsPermutation (usable_among order fees rows) (usable_among order fees (take at (ranked (contra order.side) rows)))
held_beyond order fees rows at row are is beyond =
    let side : Side = contra order.side in
    let in_order : List Row = ranked side rows in
    let read : slice_get in_order at ≡ Some row = sym (rows_read side rows at are) ∙ is in
    let none = none_behind order rows in_order at row (rows_in_order side rows are) read beyond in
    let same : filter (is_usable order) in_order ≡ filter (is_usable order) (take at in_order) =
    ap (filter (is_usable order)) (sym (take-append-drop at in_order))
    ∙ filter-append (is_usable order) (take at in_order) (drop at in_order)
    ∙ ap (λ (left : List Row). filter (is_usable order) (take at in_order) ++ left)
    (none_passes (is_usable order) (drop at in_order) none)
    ∙ append-nil (filter (is_usable order) (take at in_order)) in
    IsPermutation-map (usable_row order fees) (filter (is_usable order) rows) (filter (is_usable order) (take at in_order))
    (subst (IsPermutation (filter (is_usable order) rows)) same (passing_in_order side (is_usable order) rows are))

-- rows as each of both sides shows them are so of one of them
pub side_rows : (board : Board) (symbol : ℕ) (side : Side) → AreRows (rows_held board symbol Bid) → AreRows (rows_held board symbol Offer)
    → AreRows (rows_held board symbol side)
side_rows board symbol Bid bids offers = bids
side_rows board symbol Offer bids offers = offers

-- the usable ones of the side are those of the look at the symbol
pub held_shown : (board : Board) (order : Terms) (fees : Charges) (listed items : List Usable)
    → IsPermutation (usable_among order fees (rows_held board order.sym (contra order.side))) listed → IsPermutation listed items
    → IsPermutation (usable (seen_on board order.sym) order fees) items
held_shown board order fees listed items same more =
    IsPermutation-trans (usable (seen_on board order.sym) order fees) listed items
    (subst (λ (rows : List Row). IsPermutation (usable_among order fees rows) listed)
    (sym (rows_shown board order.sym (contra order.side))) same)
    more

-- ---- the order of their prices

-- a row that ranks above another one is at no worse price
rank_falls : (side : OrderSide) (row other : Row) → ranks_above (contra side) row other ≡ true
    → rank_of side row.price ≤ℤ rank_of side other.price
rank_falls side row other above = by side row other (above_one_way (contra side) row other above)
  where
    by : (side : OrderSide) (row other : Row) → ranks_above (contra side) other row ≡ false
        → rank_of side row.price ≤ℤ rank_of side other.price
    by Buy row other none = omega (arith, ints, ltb-false other.price row.price (or_parts (nat_lt other.price row.price) _ none).0)
    by Sell row other none = omega (arith, ints, ltb-false row.price other.price (or_parts (nat_lt row.price other.price) _ none).0)

-- the usable ones of rows in rank order come best price first
pub usable_falls : (order : Terms) (fees : Charges) (rows : List Row)
    → AllPairs (λ row later. ranks_above (contra order.side) row later ≡ true) rows
    → AllPairs (λ row later. row.rank ≤ℤ later.rank) (usable_among order fees rows)
usable_falls order fees rows falling i j d less below =
    let kept : List Row = filter (is_usable order) rows in
    let none_row : Row = record { price = 0; receipt = 0; size = 0; part = 0; protected = false } in
    let within : j < length kept = omega (arith, length-map kept (usable_row order fees)) in
    rw (get_or-map (usable_row order fees) kept i none_row d (omega arith), get_or-map (usable_row order fees) kept j none_row d within)
    (rank_falls order.side (get_or kept i none_row) (get_or kept j none_row)
    (AllPairs-filter (λ (row : Row) (later : Row). ranks_above (contra order.side) row later ≡ true) (is_usable order) rows falling i j
    none_row less within))

-- and so are those of the first of them
pub first_fall : (order : Terms) (fees : Charges) (rows : List Row) (at : ℕ) → AreRows rows
    → AllPairs (λ row later. row.rank ≤ℤ later.rank) (usable_among order fees (take at (ranked (contra order.side) rows)))
first_fall order fees rows at are =
    let in_order : List Row = ranked (contra order.side) rows in
    let falling = (rows_in_order (contra order.side) rows are).falling in
    usable_falls order fees (take at in_order) (λ i j d less below.
    let long = length-take at in_order in
    rw (get_or-take at in_order i d (omega arith), get_or-take at in_order j d (omega arith))
    (falling i j d less (omega arith)))

-- ---- by participant place

-- the rows of one participant more
pub first_more : (board : Board) (symbol : ℕ) (side : Side) (n : ℕ)
    → filter_map (row_held board symbol side) (range_with_len 0 (n + 1))
    ≡ filter_map (row_held board symbol side) (range_with_len 0 n) ++ cons_option (row_held board symbol side n) []
first_more board symbol side n =
    let held : ℕ → Option Row = row_held board symbol side in
    let place : range_with_len 0 (n + 1) ≡ range_with_len 0 n ++ n ∷ [] =
    sym (map-id (range_with_len 0 (n + 1))) ∙ map-range_with_len_more (λ k. k) 0 n n (omega arith)
    ∙ ap (λ ks. ks ++ n ∷ []) (map-id (range_with_len 0 n)) in
    ap (filter_map held) place ∙ filter_map-append held (range_with_len 0 n) (n ∷ [])

-- the quotation of a participant names that participant
quotation_part : (lot part : ℕ) (state : Option QState) (receipt : ℕ) (content : Option Content) (row : Row)
    → quotation lot part state receipt content ≡ Some row → row.part ≡ part
quotation_part lot part state receipt None row e = absurd (cc)
quotation_part lot part state receipt (Some content) row e = by (is_halted state) (displayed_size lot content.shares == 0) _ refl e
  where
    by : (halted nothing : Bool) (shown : Row) → shown.part ≡ part → cond halted None (cond nothing None (Some shown)) ≡ Some row
        → row.part ≡ part
    by true nothing shown p h = absurd (cc)
    by false true shown p h = absurd (cc)
    by false false shown p h = let same : shown ≡ row = cc in subst (λ (r : Row). r.part ≡ part) same p

held_part : (board : Board) (symbol : ℕ) (side : Side) (part : ℕ) (row : Row) → row_held board symbol side part ≡ Some row
    → row.part ≡ part
held_part board symbol side part row e = by (slice_get board.cells (place_of part symbol)) e
  where
    by : (cell : Option Cell) → option_and_then (row_of_cell (slice_index board.lots symbol) part side) cell ≡ Some row → row.part ≡ part
    by None h = absurd (cc)
    by (Some cell) h = quotation_part (slice_index board.lots symbol) part cell.state (on_side side cell.bid cell.offer).receipt
        (on_side side cell.bid cell.offer).quote row h

abbrev IsOwn : (ℕ → Option Row) → Type 0
IsOwn held = (part : ℕ) (row : Row) → held part ≡ Some row → row.part ≡ part

-- no row of other participants is found
outside : (held : ℕ → Option Row) → IsOwn held → (part from n : ℕ) → (from ≤ part → from + n ≤ part)
    → find (λ (row : Row). row.part == part) (filter_map held (range_with_len from n)) ≡ None
outside held own part from zero out = refl
outside held own part from (suc n) out =
    by (held from) refl (outside held own part (from + 1) n (λ low. omega (arith, out (omega arith))))
  where
    rest : List Row
    rest = filter_map held (range_with_len (from + 1) n)

    by : (found : Option Row) → held from ≡ found → find (λ (row : Row). row.part == part) rest ≡ None
        → find (λ (row : Row). row.part == part) (cons_option found rest) ≡ None
    by None e later = later
    by (Some row) e later =
        let other : (row.part == part) ≡ false =
        ne_eqb row.part part (λ same. omega (arith, own from row e, out (omega (arith, own from row e)))) in
        rw other later

-- the row of one of them is
inside : (held : ℕ → Option Row) → IsOwn held → (part from n : ℕ) → from ≤ part → part < from + n
    → find (λ (row : Row). row.part == part) (filter_map held (range_with_len from n)) ≡ held part
inside held own part from zero low high = absurd (omega arith)
inside held own part from (suc n) low high =
    by (held from) refl (cases_Bool (from == part))
    (λ other. inside held own part (from + 1) n (omega (arith, eqb-false from part other)) (omega arith))
  where
    rest : List Row
    rest = filter_map held (range_with_len (from + 1) n)

    by : (found : Option Row) → held from ≡ found → ((from == part) ≡ true) ⊎ ((from == part) ≡ false)
        → ((from == part) ≡ false → find (λ (row : Row). row.part == part) rest ≡ held part)
        → find (λ (row : Row). row.part == part) (cons_option found rest) ≡ held part
    by None e (inl here) later =
        let same : from ≡ part = eqb-true from part here in
        outside held own part (from + 1) n (λ low. absurd (omega arith)) ∙ sym e ∙ ap held same
    by None e (inr other) later = later other
    by (Some row) e (inl here) later =
        let same : from ≡ part = eqb-true from part here in
        let own_part : (row.part == part) ≡ true = eq-eqb row.part part (own from row e ∙ same) in
        rw own_part (sym e ∙ ap held same)
    by (Some row) e (inr other) later =
        let other_part : (row.part == part) ≡ false =
        ne_eqb row.part part (λ same. eqb-false from part other (sym (own from row e) ∙ same)) in
        rw other_part (later other)

-- a look finds the row that the board holds of a participant
pub row_found : (board : Board) (symbol part : ℕ) (side : Side) → part < board.sizes.parts
    → row_held board symbol side part ≡ find (λ (row : Row). row.part == part) (rows_on side (seen_on board symbol))
row_found board symbol part side below =
    sym (ap (find (λ (row : Row). row.part == part)) (rows_shown board symbol side)
    ∙ inside (row_held board symbol side) (held_part board symbol side) part 0 board.sizes.parts (omega arith) (omega arith))

-- and none of anybody else
pub row_of_nobody : (board : Board) (symbol part : ℕ) (side : Side) → board.sizes.parts ≤ part
    → None ≡ find (λ (row : Row). row.part == part) (rows_on side (seen_on board symbol))
row_of_nobody board symbol part side past =
    sym (ap (find (λ (row : Row). row.part == part)) (rows_shown board symbol side)
    ∙ outside (row_held board symbol side) (held_part board symbol side) part 0 board.sizes.parts (λ low. omega arith))
