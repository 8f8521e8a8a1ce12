-- The best rows that a board keeps follow a change of one cell.
use Rattle.std.proofs.Common.{◌≡◌, ◌≢◌, ℕ, ◌<◌, ◌≤◌, List, [], ◌∷◌, get_or, [], ◌∷◌, length, slice_get, slice_set, Option, Some, None}
use Rattle.std.proofs.Common.{option_and_then, refl, sym, ap, subst, ◌∙◌, inl, inr, arith}
use Rattle.std.specs.Prelude.{◌==◌, ◌||◌, All, Bool, false, not, true}
use Rattle.std.proofs.lemmas.Bool.{cases_eq, eqb-false, eqb-true}
use Rattle.std.proofs.lemmas.List.{get_or-set_other, length-set}
use Rattle.std.proofs.lemmas.List.Elements.{All-contains}
use Rattle.std.proofs.lemmas.Option.{get_or_from_slice_get, slice_get-get_or, slice_get_past, slice_get_within}
use Rattle.nms_quote.specs.Roster.{Sizes}
use Rattle.nms_quote.specs.declared.side_quote.Side.{Side}
use Rattle.nms_quote.specs.declared.side_quote.Side.TheVariants.{Bid, Offer}
use Rattle.nms_board.specs.History.{on_side}
use Rattle.nms_board.specs.Bests.{AreBests, HasNone, IsUnlessOf, best_on, first_row, row_if_any}
use Rattle.nms_board.specs.Cells.{Board, IsBoard, change_cell, place_of, present}
use Rattle.nms_board.specs.Kept.{AreRanks, IsEmpty, order_on, row_shown, symbol_cells, with_lot}
use Rattle.nms_board.specs.Ranks.{KeptOrder, first_place, row_among, with_row}
use Rattle.nms_board.specs.Ranking.{ranked_at}
use Rattle.nms_board.specs.Shown.{row_held, row_of_cell, rows_held}
use Rattle.nms_board.specs.declared.cell.Cell.{Cell}
use Rattle.nms_board.specs.declared.row.Row.{Row}
use Rattle.nms_board.specs.declared.symbol_best.SymbolBest.{SymbolBest}
use Rattle.nms_board.specs.declared.symbol_ranks.SymbolRanks.{SymbolRanks}
use Rattle.nms_board.proofs.KeptLemmas.{IsCellOf, kept_below, ranked_kept, shown_elsewhere, shown_held}
use Rattle.nms_board.proofs.ListLemmas.{slice_get-set_other, slice_get-set_same}
use Rattle.nms_board.proofs.OrderLemmas.{with_away}

-- a row of no shares means none
none_if_no_shares : (row : Row) → row.size ≡ 0 → row_if_any row ≡ None
none_if_no_shares row none = rw none refl

pub none_on_both : (bid offer : Row) → bid.size ≡ 0 → offer.size ≡ 0 → (side : Side) → row_if_any (on_side side bid offer) ≡ None
none_on_both bid offer no_bid no_offer Bid = none_if_no_shares bid no_bid
none_on_both bid offer no_bid no_offer Offer = none_if_no_shares offer no_offer

-- the same participant is first as before, and is another one
pub same_first : (first was part : ℕ) → not (first == was) || first == part ≡ false → (was ≡ first) × (was ≢ part)
same_first first was part e = by (first == was) (first == part) refl refl e
  where
    by : (same mine : Bool) → first == was ≡ same → first == part ≡ mine → not same || mine ≡ false → (was ≡ first) × (was ≢ part)
    by true false s m e =
        let same : was ≡ first = sym (eqb-true first was s) in
        (same, omega (arith, same, eqb-false first part m))
    by true true s m e = absurd (cc)
    by false mine s m e = absurd (cc)

-- the quotation at the first place, if none is at the place of no participant
pub row_at_first : (quotes : ℕ → Option Row) (kept : KeptOrder) → quotes 32 ≡ None → quotes (first_place kept) ≡ first_row quotes kept
row_at_first quotes kept nobody = by kept.places
  where
    by : (places : List ℕ) → quotes (get_or places 0 32) ≡ option_and_then quotes (slice_get places 0)
    by [] = nobody
    by (place ∷ places) = refl

pub nobody_among : (lot : ℕ) (cells : List Cell) (side : Side) → length cells ≤ 32 → row_among lot cells side 32 ≡ None
nobody_among lot cells side few = ap (option_and_then (row_of_cell lot 32 side)) (slice_get_past cells 32 few)

-- a participant's cell changed: unless it was the first, the row of the first is still its quotation
pub first_stays : (part : ℕ) (old : Option Row) (before after : ℕ → Option Row) (kept : KeptOrder) (best : Option Row)
    → with_row part old after ≡ before → after 32 ≡ None → best ≡ first_row before kept → IsUnlessOf part after (first_place kept) best
first_stays part old before after kept best was nobody is = λ other. is ∙ by kept.places other
  where
    by : (places : List ℕ) → get_or places 0 32 ≢ part → option_and_then before (slice_get places 0) ≡ after (get_or places 0 32)
    by [] other = sym nobody
    by (place ∷ places) other =
        ap (λ (quotes : ℕ → Option Row). quotes place) (sym was) ∙ with_away part old after place other

-- a symbol's orders and best rows are set, and the other symbols show the same as before
bests_set : (sizes others : Sizes) (cells changed : List Cell) (ranks : List SymbolRanks) (bests : List SymbolBest) (sym : ℕ)
    (orders : SymbolRanks) (best : SymbolBest) → length sizes.lots ≡ length others.lots
    → sym < length sizes.lots → length ranks ≡ length sizes.lots → AreBests sizes cells ranks bests
    → ((side : Side) → best_on side best ≡ first_row (row_shown others changed sym side) (order_on side orders))
    → ((s : ℕ) (side : Side) → s < length sizes.lots → s ≢ sym → row_shown sizes cells s side ≡ row_shown others changed s side)
    → AreBests others changed (slice_set ranks sym orders) (slice_set bests sym best)
bests_set sizes others cells changed ranks bests symbol orders best same_lots below many are is stays =
    record {
      symbols = length-set bests symbol best ∙ are.symbols ∙ same_lots;
      first = λ s found_orders found_best side orders_at best_at. elim (cases_eq s symbol) [
        | inl here ↦
            let orders_read : slice_get (slice_set ranks symbol orders) symbol ≡ Some orders = slice_get-set_same ranks symbol _ orders
            (slice_get-get_or ranks symbol orders (omega (arith, many, below))) in
            let best_read : slice_get (slice_set bests symbol best) symbol ≡ Some best = slice_get-set_same bests symbol _ best
            (slice_get-get_or bests symbol best (omega (arith, are.symbols, below))) in
            let both_orders : Some orders ≡ Some found_orders = sym orders_read ∙ subst (λ (n : ℕ). slice_get
            (slice_set ranks symbol orders) n ≡ Some found_orders) here orders_at in
            let both_best : Some best ≡ Some found_best = sym best_read ∙ subst (λ (n : ℕ). slice_get (slice_set bests symbol best) n
            ≡ Some found_best) here best_at in
            let same_orders : orders ≡ found_orders = cc in
            let same_best : best ≡ found_best = cc in
            rw here (subst (λ (b : SymbolBest). best_on side b ≡ first_row (row_shown others changed symbol side)
            (order_on side found_orders)) same_best (subst (λ (o : SymbolRanks). best_on side best
            ≡ first_row (row_shown others changed symbol side) (order_on side o)) same_orders (is side)))
        | inr elsewhere ↦
            let orders_were : slice_get ranks s ≡ Some found_orders =
            sym (slice_get-set_other ranks symbol s orders (λ e. elsewhere (sym e))) ∙ orders_at in
            let best_was : slice_get bests s ≡ Some found_best =
            sym (slice_get-set_other bests symbol s best (λ e. elsewhere (sym e))) ∙ best_at in
            let in_syms : s < length sizes.lots = omega (arith, slice_get_within ranks s found_orders orders_were, many) in
            are.first s found_orders found_best side orders_were best_was
            ∙ ap (λ (quotes : ℕ → Option Row). first_row quotes (order_on side found_orders)) (stays s side in_syms elsewhere)
      ];
    }

-- one cell changed, and its symbol's orders and best rows with it
pub bests_altered : (sizes : Sizes) (cells : List Cell) (ranks : List SymbolRanks) (bests : List SymbolBest) (part sym : ℕ)
    (f : Cell → Cell) (orders : SymbolRanks) (best : SymbolBest) → IsCellOf sizes cells part sym
    → length (change_cell cells (place_of part sym) f) ≡ length cells → length ranks ≡ length sizes.lots → AreBests sizes cells ranks bests
    → ((side : Side) → best_on side best ≡ first_row (row_shown sizes (change_cell cells (place_of part sym) f) sym side)
    (order_on side orders))
    → AreBests sizes (change_cell cells (place_of part sym) f) (slice_set ranks sym orders) (slice_set bests sym best)
bests_altered sizes cells ranks bests part symbol f orders best of long many are followed =
    let changed = change_cell cells (place_of part symbol) f in
    bests_set sizes sizes cells changed ranks bests symbol orders best refl of.in_syms many are followed
    (λ s side below elsewhere.
    shown_elsewhere sizes cells part symbol s f side of.narrow (omega (arith, of.room, of.narrow)) of.in_parts elsewhere long)

-- a symbol's lot changed: its orders and best rows are those in the new lot
pub bests_relotted : (sizes : Sizes) (cells : List Cell) (ranks : List SymbolRanks) (bests : List SymbolBest) (sym lot : ℕ)
    (orders : SymbolRanks) (best : SymbolBest) → sym < length sizes.lots → length ranks ≡ length sizes.lots
    → AreBests sizes cells ranks bests
    → ((side : Side) → best_on side best ≡ first_row (row_shown (with_lot sizes sym lot) cells sym side) (order_on side orders))
    → AreBests (with_lot sizes sym lot) cells (slice_set ranks sym orders) (slice_set bests sym best)
bests_relotted sizes cells ranks bests symbol lot orders best below many are is =
    bests_set sizes (with_lot sizes symbol lot) cells cells ranks bests symbol orders best (sym (length-set sizes.lots symbol lot))
    below many are is
    (λ s side in_syms elsewhere. ap (λ (l : ℕ). row_among l (symbol_cells sizes.parts s cells) side) (sym
    (get_or-set_other sizes.lots symbol s lot 0 elsewhere)))

-- an opening has no best rows
pub bests_opening : (sizes : Sizes) (cells : List Cell) (ranks : List SymbolRanks) (bests : List SymbolBest)
    → length bests ≡ length sizes.lots → All IsEmpty ranks → All HasNone bests → AreBests sizes cells ranks bests
bests_opening sizes cells ranks bests symbols empty none =
    record {
      symbols = symbols;
      first = λ s orders best side orders_at best_at.
          All-contains HasNone bests best none
          (s, slice_get_within bests s best best_at, get_or_from_slice_get bests s best best best_at) side
          ∙ sym (ap (first_row (row_shown sizes cells s side))
          (All-contains IsEmpty ranks orders empty (
            s,
            slice_get_within ranks s orders orders_at,
            get_or_from_slice_get ranks s orders orders
                orders_at,
          ) side));
    }

-- the best row kept of a side is the row that ranks first
pub best_kept : (board : Board) (ranks : List SymbolRanks) (bests : List SymbolBest) (sym : ℕ) (side : Side) (orders : SymbolRanks)
    (best : SymbolBest) → IsBoard board → AreRanks (present board) board.cells ranks
    → AreBests (present board) board.cells ranks bests → sym < length board.lots → slice_get ranks sym ≡ Some orders
    → slice_get bests sym ≡ Some best → best_on side best ≡ ranked_at side (rows_held board sym side) 0
best_kept board ranks bests symbol side orders best is are bests_are below orders_at best_at =
    bests_are.first symbol orders best side orders_at best_at ∙ by (slice_get (order_on side orders).places 0) refl
    ∙ sym (ranked_kept board ranks symbol side orders 0 is are below orders_at)
  where
    by : (place : Option ℕ) → slice_get (order_on side orders).places 0 ≡ place
        → option_and_then (row_shown (present board) board.cells symbol side) place ≡ option_and_then (row_held board symbol side) place
    by None e = refl
    by (Some k) e =
        shown_held board symbol side k (omega (arith, is.shape.parts, is.shape.cells, is.shape.lots, below))
        (kept_below board ranks symbol side orders 0 k is are below orders_at e)
