-- The rows that a board shows are of the board's participants.
use Rattle.std.proofs.Common.{ℕ, zero, suc, ◌≡◌, ◌+◌, ◌<◌, ◌≤◌, Bool, true, false, cond, List, [], ◌∷◌, Option, Some, None, arith, refl}
use Rattle.std.proofs.Common.{ap, length, subst}
use Rattle.std.specs.Prelude.{All, slice_get, slice_index, ◌==◌}
use Rattle.std.specs.List.{AllByRecursion, cons_option, filter_map, range_with_len}
use Rattle.std.specs.Option.{option_and_then}
use Rattle.std.proofs.lemmas.List.Elements.{All-from_recursion}
use Rattle.nms_units.specs.Lot.{displayed_size}
use Rattle.nms_quote.specs.Content.{Content}
use Rattle.nms_quote.specs.Roster.{Sizes}
use Rattle.nms_quote.specs.Tape.{Tape}
use Rattle.nms_quote.specs.declared.side_quote.Side.{Side}
use Rattle.nms_quote.specs.declared.side_quote.Side.TheVariants.{Bid, Offer}
use Rattle.nms_quote.specs.declared.side_quote.QState.{QState}
use Rattle.nms_board.specs.Quotation.{quotation, quotation_of, quotations, is_halted}
use Rattle.nms_board.specs.Cells.{Board, place_of}
use Rattle.nms_board.specs.Shown.{row_of_cell, row_held, rows_held, seen_on}
use Rattle.nms_board.specs.History.{content_at, lot_at, on_side, receipt_of, state_at}
use Rattle.nms_board.specs.View.{Seen, rows_on, view_of}
use Rattle.nms_board.specs.declared.cell.Cell.{Cell}
use Rattle.nms_board.specs.declared.row.Row.{Row}
use Rattle.nms_board.proofs.RowLemmas.{length-filter_map-range}

-- the quotation of a participant names that participant
quotation_part : (lot part : ℕ) (state : Option QState) (receipt : ℕ) (content : Option Content) (row : Row)
    → quotation lot part state receipt content ≡ Some row → row.part ≡ part
quotation_part lot part state receipt None row e = absurd (cc)
quotation_part lot part state receipt (Some content) row e = by (is_halted state) (displayed_size lot content.shares == 0) _ refl e
  where
    by : (halted nothing : Bool) (shown : Row) → shown.part ≡ part → cond halted None (cond nothing None (Some shown)) ≡ Some row
        → row.part ≡ part
    by true nothing shown p h = absurd (cc)
    by false true shown p h = absurd (cc)
    by false false shown p h = let same : shown ≡ row = cc in subst (λ (r : Row). r.part ≡ part) same p

pub held_part : (board : Board) (sym : ℕ) (side : Side) (part : ℕ) (row : Row) → row_held board sym side part ≡ Some row → row.part ≡ part
held_part board sym side part row e = by (slice_get board.cells (place_of part sym)) e
  where
    by : (cell : Option Cell) → option_and_then (row_of_cell (slice_index board.lots sym) part side) cell ≡ Some row → row.part ≡ part
    by None h = absurd (cc)
    by (Some cell) h = quotation_part (slice_index board.lots sym) part cell.state (on_side side cell.bid cell.offer).receipt
        (on_side side cell.bid cell.offer).quote row h

rows_below : (f : ℕ → Option Row) → ((part : ℕ) (row : Row) → f part ≡ Some row → row.part ≡ part) → (from n : ℕ)
    → AllByRecursion (λ (row : Row). row.part < from + n) (filter_map f (range_with_len from n))
rows_below f own from zero = tt
rows_below f own from (suc n) = by (f from) refl (rows_below f own (from + 1) n)
  where
    step : (xs : List Row) → AllByRecursion (λ (row : Row). row.part < (from + 1) + n) xs
        → AllByRecursion (λ (row : Row). row.part < from + suc n) xs
    step [] h = tt
    step (x ∷ xs) h = (omega (arith, h.0), step xs h.1)

    by : (found : Option Row) → f from ≡ found
        → AllByRecursion (λ (row : Row). row.part < (from + 1) + n) (filter_map f (range_with_len (from + 1) n))
        → AllByRecursion (λ (row : Row). row.part < from + suc n) (cons_option found (filter_map f (range_with_len (from + 1) n)))
    by None e rest = step _ rest
    by (Some row) e rest = (omega (arith, own from row e), step _ rest)

all_below : (rows : List Row) (parts : ℕ) → AllByRecursion (λ (row : Row). row.part < 0 + parts) rows
    → All (λ (row : Row). row.part < parts) rows
all_below rows parts h = All-from_recursion (λ (row : Row). row.part < parts) rows (step rows h)
  where
    step : (xs : List Row) → AllByRecursion (λ (row : Row). row.part < 0 + parts) xs → AllByRecursion (λ (row : Row). row.part < parts) xs
    step [] h = tt
    step (x ∷ xs) h = (omega (arith, h.0), step xs h.1)

-- each row that is held is of one of the board's participants
pub held_parts : (board : Board) (sym : ℕ) (side : Side) → All (λ (row : Row). row.part < board.sizes.parts) (rows_held board sym side)
held_parts board sym side = all_below (rows_held board sym side) board.sizes.parts
    (rows_below (row_held board sym side) (held_part board sym side) 0 board.sizes.parts)

-- and so is each row that is shown
pub shown_parts : (board : Board) (sym : ℕ) (side : Side)
    → All (λ (row : Row). row.part < board.sizes.parts) (rows_on side (seen_on board sym))
shown_parts board sym Bid = held_parts board sym Bid
shown_parts board sym Offer = held_parts board sym Offer

pub rows_seen : (board : Board) (sym : ℕ) (side : Side) → rows_on side (seen_on board sym) ≡ rows_held board sym side
rows_seen board symbol Bid = refl
rows_seen board symbol Offer = refl

-- each row that is seen is of one of the board's participants
pub seen_parts : (board : Board) (sym : ℕ) (seen : Seen) → seen ≡ seen_on board sym → (side : Side)
    → All (λ (row : Row). row.part < board.sizes.parts) (rows_on side seen)
seen_parts board sym seen e side = subst (λ (s : Seen). All (λ (row : Row). row.part
    < board.sizes.parts) (rows_on side s)) (sym_of e) (shown_parts board sym side)
  where
    sym_of : {a b : Seen} → a ≡ b → b ≡ a
    sym_of p = Rattle.std.proofs.Common.sym p

-- each quotation of a tape is of a participant of the roster
quoted_parts : (sizes : Sizes) (tape : Tape) (sym : ℕ) (side : Side)
    → All (λ (row : Row). row.part < sizes.parts) (quotations sizes tape sym side)
quoted_parts sizes tape symbol side =
    all_below (quotations sizes tape symbol side) sizes.parts
    (rows_below (quotation_of sizes tape symbol side)
    (λ part row e. quotation_part (lot_at sizes tape symbol) part (state_at part symbol tape) (receipt_of part symbol side tape)
    (content_at part symbol side tape) row e) 0 sizes.parts)

-- and so is each row of a view of it
pub view_parts : (sizes : Sizes) (tape : Tape) (sym : ℕ) (side : Side)
    → All (λ (row : Row). row.part < sizes.parts) (rows_on side (view_of sizes tape sym))
view_parts sizes tape symbol Bid = quoted_parts sizes tape symbol Bid
view_parts sizes tape symbol Offer = quoted_parts sizes tape symbol Offer

-- a side of a symbol has no more rows than there are participants
pub held_few : (board : Board) (sym : ℕ) (side : Side) → length (rows_held board sym side) ≤ board.sizes.parts
held_few board sym side = length-filter_map-range (row_held board sym side) 0 board.sizes.parts
