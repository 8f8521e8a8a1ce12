-- The protected prices of a participant in a symbol: what a board holds of them, when a change leaves them, and when they
-- are inferior to a price.
use Rattle.std.proofs.Common.{ℕ, ◌≡◌, ◌≢◌, ◌+◌, ◌*◌, ◌<◌, ◌≤◌, ◌==◌, ◌&&◌, zero, suc, Bool, true, false, List, arith}
use Rattle.std.proofs.Common.{refl, sym, ap, subst, ◌∙◌, length, nat_lt, slice_get, slice_index, Option, Some, None, unwrap_or, eq-eqb, ltb-true}
use Rattle.std.proofs.lemmas.Bool.{and_from, and_parts, false≢true}
use Rattle.std.proofs.lemmas.List.{get_or-set_other}
use Rattle.std.proofs.lemmas.Option.{unwrap_or-slice_get}
use Rattle.nms_quote.specs.Roster.{Sizes, holds}
use Rattle.nms_quote.specs.Tape.{Tape, version}
use Rattle.nms_quote.specs.declared.side_quote.Side.{Side}
use Rattle.nms_quote.specs.declared.side_quote.Side.TheVariants.{Bid, Offer}
use Rattle.nms_quote.specs.declared.change.Change.{Change}
use Rattle.nms_quote.specs.declared.change.Change.TheVariants.{Lot, Quote, State, Withdraw}
use Rattle.nms_board.specs.Cells.{Board, StandsFor, after, cell_of, cells_after, lots_after, place_of, quoted, restated}
use Rattle.nms_board.specs.Cells.{withdraw_from, withdrawn}
use Rattle.nms_board.specs.History.{content_at, lot_at, on_side, receipt_of, state_at}
use Rattle.nms_board.specs.Quotation.{quotation, quotation_of}
use Rattle.nms_board.specs.Shown.{row_held, row_of_cell}
use Rattle.nms_board.specs.declared.TheConstants.{MOST_ROWS}
use Rattle.nms_board.specs.declared.cell.Cell.{Cell}
use Rattle.nms_board.specs.declared.row.Row.{Row}
use Rattle.nms_board.proofs.Offered.{change_cell_elsewhere}
use Rattle.nms_stream.specs.Replays.{IsAt}
use Rattle.nms_trades.specs.Around.{is_inferior}
use Rattle.nms_trades.specs.Parts.{AreParts, limits_both, part_at, part_held, touches}
use Rattle.nms_trades.specs.Track.{HasTrack, holds_of, nothing}
use Rattle.nms_trades.specs.declared.track.Test.TheVariants as test
use Rattle.nms_trades.specs.declared.track.Track.{Track}
use Rattle.nms_trades.proofs.BestFacts.{has_first}

cell_row : (lot part sym : ℕ) (side : Side) (tape : Tape)
    → row_of_cell lot part side (cell_of part sym tape)
    ≡ quotation lot part (state_at part sym tape) (receipt_of part sym side tape) (content_at part sym side tape)
cell_row lot part symbol Bid tape = refl
cell_row lot part symbol Offer tape = refl

-- what a board holds of a participant in a symbol is its quotation
row_is : (board : Board) (tape : Tape) (sym : ℕ) (side : Side) (part : ℕ) → StandsFor board tape → sym < length board.sizes.lots
    → part < board.sizes.parts → row_held board sym side part ≡ quotation_of board.sizes tape sym side part
row_is board tape symbol side part stands in_syms in_parts =
    let lot_is : slice_index board.lots symbol ≡ lot_at board.sizes tape symbol =
    sym (unwrap_or-slice_get board.lots symbol 0) ∙ ap (λ (l : Option ℕ). unwrap_or l 0) (stands.lots symbol) in
    rw (stands.cells part symbol in_parts in_syms, lot_is) (cell_row (lot_at board.sizes tape symbol) part symbol side tape)

-- the prices that a board holds are those of its version
held_at : (board : Board) (tape : Tape) (sym part n : ℕ) → StandsFor board (version n tape) → sym < length board.sizes.lots
    → part < board.sizes.parts → part_held board sym part ≡ part_at board.sizes tape sym part n
held_at board tape symbol part n stands in_syms in_parts =
    rw (
      row_is board (version n tape) symbol Bid part stands in_syms in_parts,
      row_is board (version n tape) symbol Offer part stands in_syms in_parts,
    ) refl

-- so a board holds those of its version
pub held_as : (sizes : Sizes) (tape : Tape) (board : Board) (sym part : ℕ) → IsAt sizes tape board → sym < length sizes.lots
    → part < sizes.parts → part_held board sym part ≡ part_at sizes tape sym part board.applied
held_as sizes tape board symbol part at =
    subst (λ (z : Sizes). symbol < length z.lots → part < z.parts
    → part_held board symbol part ≡ part_at z tape symbol part board.applied) at.same
    (held_at board tape symbol part board.applied at.stands)

-- the cells of two participants, or in two symbols, are two
apart : (p s part sym : ℕ) → p < MOST_ROWS → part < MOST_ROWS → (p == part && s == sym) ≡ false → place_of p s ≢ place_of part sym
apart p s part symbol p_in part_in kept at =
    let same_part : p ≡ part = omega arith in
    let same_sym : s ≡ symbol = omega arith in
    absurd (false≢true (sym kept ∙ and_from (p == part) (s == symbol) (eq-eqb p part same_part) (eq-eqb s symbol same_sym)))

same_part : (p s part sym : ℕ) → p < MOST_ROWS → part < MOST_ROWS → place_of p s ≡ place_of part sym → p ≡ part
same_part p s part symbol p_in part_in at = omega arith

-- a withdrawal leaves the cells of another participant
withdrawn_elsewhere : (n p syms : ℕ) (cells : List Cell) (place : ℕ) → ((sym : ℕ) → sym < syms → place_of p sym ≢ place)
    → slice_get (withdraw_from n p syms cells) place ≡ slice_get cells place
unfolding withdraw_from
withdrawn_elsewhere n p zero cells place ne = refl
withdrawn_elsewhere n p (suc symbol) cells place ne =
    change_cell_elsewhere (withdraw_from n p symbol cells) (place_of p symbol) place (withdrawn n) (ne symbol (omega arith))
    ∙ withdrawn_elsewhere n p symbol cells place (λ s below. ne s (omega arith))

-- the participant of a change is of the roster
part_within : (parts syms part sym : ℕ) → (nat_lt part parts && nat_lt sym syms) ≡ true → part < parts
part_within parts syms part symbol held = ltb-true part parts (and_parts (nat_lt part parts) (nat_lt symbol syms) held).0

-- so the place of a participant in a symbol is none of those that a change touches
pub apart_in : (board : Board) (p s part sym : ℕ) → board.sizes.parts ≤ MOST_ROWS
    → (nat_lt p board.sizes.parts && nat_lt s (length board.sizes.lots)) ≡ true → part < board.sizes.parts
    → (p == part && s == sym) ≡ false → place_of part sym ≢ place_of p s
apart_in board p s part symbol narrow held in_parts kept at =
    let p_in : p < board.sizes.parts = part_within board.sizes.parts (length board.sizes.lots) p s held in
    apart p s part symbol (omega arith) (omega arith) kept (sym at)

pub other_part : (board : Board) (p s part sym : ℕ) → board.sizes.parts ≤ MOST_ROWS → nat_lt p board.sizes.parts ≡ true
    → part < board.sizes.parts → (p == part) ≡ false → place_of p s ≢ place_of part sym
other_part board p s part symbol narrow held in_parts kept at =
    let p_in : p < board.sizes.parts = ltb-true p board.sizes.parts held in
    let same : p ≡ part = omega arith in
    absurd (false≢true (sym kept ∙ eq-eqb p part same))

pub other_sym : (board : Board) (p s part sym : ℕ) → board.sizes.parts ≤ MOST_ROWS → p < board.sizes.parts → part < board.sizes.parts
    → (s == sym) ≡ false → place_of p s ≢ place_of part sym
other_sym board p s part symbol narrow p_in in_parts kept at =
    let same : s ≡ symbol = omega arith in
    absurd (false≢true (sym kept ∙ eq-eqb s symbol same))

-- a cell that a change does not touch stays
cell_stays : (board : Board) (change : Change) (sym part : ℕ) → board.sizes.parts ≤ MOST_ROWS → holds board.sizes change ≡ true
    → part < board.sizes.parts → touches sym part change ≡ false
    → slice_get (cells_after (board.applied + 1) (length board.sizes.lots) board.cells change) (place_of part sym)
    ≡ slice_get board.cells (place_of part sym)
cell_stays board (Quote p s state bid offer) symbol part narrow held in_parts kept =
    let p_in : p < board.sizes.parts = part_within board.sizes.parts (length board.sizes.lots) p s held in
    change_cell_elsewhere board.cells (place_of p s) (place_of part symbol) (quoted (board.applied + 1) state bid offer)
    (apart p s part symbol (omega arith) (omega arith) kept)
cell_stays board (State p s state) symbol part narrow held in_parts kept =
    let p_in : p < board.sizes.parts = part_within board.sizes.parts (length board.sizes.lots) p s held in
    change_cell_elsewhere board.cells (place_of p s) (place_of part symbol) (restated state)
    (apart p s part symbol (omega arith) (omega arith) kept)
cell_stays board (Withdraw p) symbol part narrow held in_parts kept =
    let p_in : p < board.sizes.parts = ltb-true p board.sizes.parts held in
    let differ : p ≢ part = λ same. false≢true (sym kept ∙ eq-eqb p part same) in
    withdrawn_elsewhere (board.applied + 1) p (length board.sizes.lots) board.cells (place_of part symbol)
    (λ s below at. differ (same_part p s part symbol (omega arith) (omega arith) at))
cell_stays board (Lot s lot) symbol part narrow held in_parts kept = refl

-- and so does the lot of a symbol
lot_stays : (lots : List ℕ) (change : Change) (sym part : ℕ) → touches sym part change ≡ false
    → slice_index (lots_after lots change) sym ≡ slice_index lots sym
lot_stays lots (Quote p s state bid offer) symbol part kept = refl
lot_stays lots (State p s state) symbol part kept = refl
lot_stays lots (Withdraw p) symbol part kept = refl
lot_stays lots (Lot s lot) symbol part kept =
    get_or-set_other lots s symbol lot 0 (λ same. false≢true (sym kept ∙ eq-eqb s symbol (sym same)))

-- so a board holds the prices that it held
pub part_stays : (board : Board) (change : Change) (sym part : ℕ) → board.sizes.parts ≤ MOST_ROWS → holds board.sizes change ≡ true
    → part < board.sizes.parts → touches sym part change ≡ false → part_held (after board change) sym part ≡ part_held board sym part
part_stays board change symbol part narrow held in_parts kept =
    rw (cell_stays board change symbol part narrow held in_parts kept, lot_stays board.lots change symbol part kept) refl

-- before any change nothing is quoted
pub parts_first : (sizes : Sizes) (tape : Tape) (tracks : List Track)
    → ((place : ℕ) → place < MOST_ROWS * length sizes.lots → HasTrack (λ n. nothing) 0 (slice_get tracks place))
    → sizes.parts ≤ MOST_ROWS → AreParts sizes tape 0 tracks
parts_first sizes tape tracks each narrow symbol part in_syms in_parts =
    has_first (part_at sizes tape symbol part) (slice_get tracks (place_of part symbol)) refl (each (place_of part symbol) (omega arith))

-- a quotation is inferior to a price exactly if its protected price is
inferior_bid : (b : Bool) (millionths : ℕ) (row : Row) → row.protected ≡ b → (offer : Option Row)
    → holds_of (test.Inferior Bid) millionths (limits_both (Some row) offer) ≡ is_inferior Bid millionths (Some row)
inferior_bid true millionths row is offer = rw is refl
inferior_bid false millionths row is offer = rw is refl

inferior_offer : (b : Bool) (millionths : ℕ) (row : Row) → row.protected ≡ b → (bid : Option Row)
    → holds_of (test.Inferior Offer) millionths (limits_both bid (Some row)) ≡ is_inferior Offer millionths (Some row)
inferior_offer true millionths row is bid = rw is refl
inferior_offer false millionths row is bid = rw is refl

pub inferior_is : (side : Side) (millionths : ℕ) (bid offer : Option Row)
    → holds_of (test.Inferior side) millionths (limits_both bid offer) ≡ is_inferior side millionths (on_side side bid offer)
inferior_is Bid millionths None offer = refl
inferior_is Bid millionths (Some row) offer = inferior_bid row.protected millionths row refl offer
inferior_is Offer millionths bid None = refl
inferior_is Offer millionths bid (Some row) = inferior_offer row.protected millionths row refl bid
