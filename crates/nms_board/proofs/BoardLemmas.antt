-- The cells hold what the tape says: at the opening, and after each change that the board takes.
use Rattle.std.proofs.Common.{◌≡◌, ◌≢◌, ℕ, zero, suc, ◌+◌, ◌*◌, ◌/◌, ◌<◌, ◌≤◌, ◌&&◌, ◌==◌, Bool, true, false, List, [], ◌∷◌, ◌++◌, length}
use Rattle.std.proofs.Common.{Option, Some, None, option_map, unwrap_or, get_or, slice_get, slice_set, slice_index, option_and_then}
use Rattle.std.proofs.Common.{if◌then◌else◌, nat_lt, refl, sym, ap, subst, ◌∙◌, inl, inr, arith, add-one, eqb, eq-eqb, ne_eqb, lt-ltb}
use Rattle.std.proofs.Common.{ltb-true, mul-zero}
use Rattle.std.proofs.lemmas.List.{get_or-set_other, length-append, length-set, set-get_or}
use Rattle.std.proofs.lemmas.Option.{slice_get-get_or, slice_get_past, slice_get_read, unwrap_or-slice_get}
use Rattle.std.proofs.lemmas.Bool.{and_parts, and_from, and_left, and_right, cases_Bool, cases_eq, cases_lt, false≢true}
use Rattle.nms_quote.specs.Content.{Content}
use Rattle.nms_quote.specs.Roster.{Sizes, holds}
use Rattle.nms_quote.specs.Tape.{Tape}
use Rattle.nms_quote.specs.declared.side_quote.Side.{Side}
use Rattle.nms_quote.specs.declared.side_quote.Side.TheVariants.{Bid, Offer}
use Rattle.nms_quote.specs.declared.side_quote.QState.{QState}
use Rattle.nms_quote.specs.declared.change.Change.{Change}
use Rattle.nms_quote.specs.declared.change.Change.TheVariants.{Lot, Quote, State, Withdraw}
use Rattle.nms_board.specs.declared.TheConstants.{MOST_ROWS}
use Rattle.nms_quote.specs.declared.TheConstants.{MOST_CHANGES}
use Rattle.nms_board.specs.History.{before_equal_end, concerns, lot_at, lot_listed, lot_said, lot_since, on_side, said_of, content_at}
use Rattle.nms_board.specs.History.{state_said, state_at, receipt_of, same_content}
use Rattle.nms_board.specs.Cells.{Board, IsBoard, StandsFor, after, cells_after, lots_after, cell_of, change_cell, empty_cell, held_after}
use Rattle.nms_board.specs.Cells.{held_of, opening, place_of, quoted, restated, set_if_some, takes, withdraw_from, withdrawn}
use Rattle.nms_board.specs.Quotation.{is_halted, quotation, quotation_of, quotations}
use Rattle.nms_board.specs.Shown.{row_held, row_of_cell, rows_held, seen_on}
use Rattle.nms_board.specs.View.{view_of}
use Rattle.nms_board.specs.declared.row.Row.{Row}
use Rattle.nms_board.specs.Holding.{Holding}
use Rattle.nms_board.specs.declared.cell.Cell.{Cell}
use Rattle.nms_board.proofs.ListLemmas.{slice_get-set_same, slice_get-set_other, slice_get-replicate_below, filter_map_none}
use Rattle.nms_board.proofs.ListLemmas.{filter_map_same}
use Rattle.nms_board.proofs.HistoryLemmas.{content_at-push, lot_listed-push, lot_listed_unsaid, receipt_of-push, same_content-refl}
use Rattle.nms_board.proofs.HistoryLemmas.{same_content-true, state_at-push}

-- the roster stays
pub sizes_after : (board : Board) (change : Change) → (after board change).sizes ≡ board.sizes
sizes_after board change = refl

-- a board with room takes what the roster holds
pub takes_by : (board : Board) (change : Change) → holds board.sizes change ≡ true → board.applied < 10000000 → takes board change ≡ true
takes_by board change held room =
    and_from (holds board.sizes change) (nat_lt board.applied 10000000) held (lt-ltb board.applied 10000000 room)

pub stands_opening : (sizes : Sizes) → sizes.parts ≤ 32 → StandsFor (opening sizes) []
unfolding before_equal_end
stands_opening sizes narrow = record {
  applied = refl;
  narrow = narrow;
  lots = λ symbol. as_opened (slice_get sizes.lots symbol) symbol;
  cells = λ part symbol in_parts in_syms. slice_get-replicate_below (32 * length sizes.lots) (place_of part symbol) empty_cell
      (omega arith);
}
  where
    as_opened : (lot : Option ℕ) (symbol : ℕ) → lot ≡ option_map (lot_since symbol []) lot
    as_opened None symbol = refl
    as_opened (Some lot) symbol = refl

-- a side whose receipt follows its content is the side after the change
held_step : (n receipt receipt' : ℕ) (old new : Option Content) → receipt' ≡ (if same_content old new then receipt else n)
    → (let after : Holding = record { quote = new; receipt = receipt' } in after)
    ≡ held_after n new (record { quote = old; receipt = receipt })
held_step n receipt receipt' old new e =
    elim (cases_Bool (same_content old new)) [
      | inl same ↦ rw (e, same, ← same_content-true old new same) refl
      | inr differ ↦ rw (e, differ) refl
    ]

-- a side after one more change
pub held_of-push : (part sym : ℕ) (side : Side) (tape : Tape) (change : Change)
    → held_of part sym side (tape ++ change ∷ [])
    ≡ held_after (length tape + 1) (content_at part sym side (tape ++ change ∷ [])) (held_of part sym side tape)
held_of-push part symbol side tape change =
    held_step (length tape + 1) (receipt_of part symbol side tape) (receipt_of part symbol side (tape ++ change ∷ []))
    (content_at part symbol side tape) (content_at part symbol side (tape ++ change ∷ [])) (receipt_of-push part symbol side tape change)

-- a side of which a change says something
pub held_of_said : (part sym : ℕ) (side : Side) (tape : Tape) (change : Change) (content : Option Content)
    → said_of part sym side change ≡ Some content → held_of part sym side (tape ++ change ∷ [])
    ≡ held_after (length tape + 1) content (held_of part sym side tape)
held_of_said part symbol side tape change content said =
    held_of-push part symbol side tape change
    ∙ ap (λ said. held_after (length tape + 1) said (held_of part symbol side tape))
    (content_at-push part symbol side tape change ∙ ap (λ s. unwrap_or s (content_at part symbol side tape)) said)

-- a side of which a change says nothing stays
pub held_of_unsaid : (part sym : ℕ) (side : Side) (tape : Tape) (change : Change) → said_of part sym side change ≡ None
    → held_of part sym side (tape ++ change ∷ []) ≡ held_of part sym side tape
held_of_unsaid part symbol side tape change unsaid =
    held_of-push part symbol side tape change
    ∙ ap (λ said. held_after (length tape + 1) said (held_of part symbol side tape))
    (content_at-push part symbol side tape change ∙ ap (λ s. unwrap_or s (content_at part symbol side tape)) unsaid)
    ∙ rw (same_content-refl (content_at part symbol side tape)) refl

-- the cell that a quote is about
cell_quoted : (part sym : ℕ) (state : QState) (bid offer : Option Content) (tape : Tape)
    → cell_of part sym (tape ++ Quote part sym state bid offer ∷ []) ≡ quoted (length tape + 1) state bid offer (cell_of part sym tape)
cell_quoted part symbol state bid offer tape =
    let change = Quote part symbol state bid offer in
    let here : (part == part && symbol == symbol) ≡ true =
    and_from (eqb part part) (eqb symbol symbol) (eq-eqb part part refl) (eq-eqb symbol symbol refl) in
    let bid_said : said_of part symbol Bid change ≡ Some bid = rw here refl in
    let offer_said : said_of part symbol Offer change ≡ Some offer = rw here refl in
    let state_is : state_at part symbol (tape ++ change ∷ []) ≡ Some state = state_at-push part symbol tape change ∙ rw here refl in
    rw (held_of_said part symbol Bid tape change bid bid_said, held_of_said part symbol Offer tape change offer offer_said, state_is) refl

-- the cell whose state a change sets
cell_restated : (part sym : ℕ) (state : QState) (tape : Tape)
    → cell_of part sym (tape ++ State part sym state ∷ []) ≡ restated state (cell_of part sym tape)
cell_restated part symbol state tape =
    let change = State part symbol state in
    let here : (part == part && symbol == symbol) ≡ true =
    and_from (eqb part part) (eqb symbol symbol) (eq-eqb part part refl) (eq-eqb symbol symbol refl) in
    let state_is : state_at part symbol (tape ++ change ∷ []) ≡ Some state = state_at-push part symbol tape change ∙ rw here refl in
    rw (held_of_unsaid part symbol Bid tape change refl, held_of_unsaid part symbol Offer tape change refl, state_is) refl

-- a cell that a withdrawal clears
cell_withdrawn : (part sym : ℕ) (tape : Tape) → cell_of part sym (tape ++ Withdraw part ∷ [])
    ≡ withdrawn (length tape + 1) (cell_of part sym tape)
cell_withdrawn part symbol tape =
    let change = Withdraw part in
    let here : (part == part) ≡ true = eq-eqb part part refl in
    let said : (side : Side) → said_of part symbol side change ≡ Some None = λ side. rw here refl in
    rw (
      held_of_said part symbol Bid tape change None (said Bid),
      held_of_said part symbol Offer tape change None (said Offer),
      state_at-push part symbol tape change,
    ) refl

-- a cell that a change does not concern
cell_untouched : (part sym : ℕ) (tape : Tape) (change : Change) → ((side : Side) → said_of part sym side change ≡ None)
    → state_said part sym change ≡ None → cell_of part sym (tape ++ change ∷ []) ≡ cell_of part sym tape
cell_untouched part symbol tape change unsaid state_unsaid =
    let state_is : state_at part symbol (tape ++ change ∷ []) ≡ state_at part symbol tape = state_at-push part symbol tape change
    ∙ rw state_unsaid refl in
    rw (held_of_unsaid part symbol Bid tape change (unsaid Bid), held_of_unsaid part symbol Offer tape change (unsaid Offer), state_is) refl

-- a change of one participant in one symbol is another's only if both are the same
elsewhere : (p s part sym : ℕ) → (p ≡ part → s ≡ sym → ⊥) → (p == part && s == sym) ≡ false
elsewhere p s part symbol ne =
    elim (cases_eq p part) [
      | inl same ↦ and_right (eqb p part) (eqb s symbol) (ne_eqb s symbol (ne same))
      | inr differ ↦ and_left (eqb p part) (eqb s symbol) (ne_eqb p part differ)
    ]

-- one cell changed: it, and the others
pub change_cell_is : (cells : List Cell) (i : ℕ) (f : Cell → Cell) (cell : Cell) → slice_get cells i ≡ Some cell
    → change_cell cells i f ≡ slice_set cells i (f cell)
change_cell_is cells i f cell there = rw there refl

-- a cell that was read and written
pub change_cell_written : (cells : List Cell) (i place : ℕ) (f : Cell → Cell) (cell new : Cell) → i ≡ place → i < length cells
    → cell ≡ get_or cells i cell → new ≡ f cell → slice_set cells i new ≡ change_cell cells place f
change_cell_written cells i place f cell new at below read written =
    rw (written, ← at) (sym (change_cell_is cells i f cell (slice_get_read cells (length cells) i cell refl below read)))

-- a change that leaves its cell as it is leaves all cells
pub change_cell_stays : (cells : List Cell) (i place : ℕ) (f : Cell → Cell) (cell : Cell) → i ≡ place → i < length cells
    → f (get_or cells i cell) ≡ get_or cells i cell
    → change_cell cells place f ≡ cells
change_cell_stays cells i place f cell at below stays =
    let there : slice_get cells place ≡ Some (get_or cells i cell) = ap (slice_get cells) (sym at) ∙ slice_get-get_or cells i cell below in
    change_cell_is cells place f (get_or cells i cell) there ∙ rw (stays, ← at) (set-get_or cells i cell)

pub change_cell_here : (cells : List Cell) (i : ℕ) (f : Cell → Cell) (cell : Cell) → slice_get cells i ≡ Some cell
    → slice_get (change_cell cells i f) i ≡ Some (f cell)
change_cell_here cells i f cell there = rw (change_cell_is cells i f cell there) (slice_get-set_same cells i cell (f cell) there)

pub change_cell_elsewhere : (cells : List Cell) (i j : ℕ) (f : Cell → Cell) → i ≢ j
    → slice_get (change_cell cells i f) j ≡ slice_get cells j
change_cell_elsewhere cells i j f ne = by_read (slice_get cells i)
  where
    by_read : (read : Option Cell) → slice_get (set_if_some cells i f read) j ≡ slice_get cells j
    by_read None = refl
    by_read (Some cell) = slice_get-set_other cells i j (f cell) ne

-- a withdrawal of one more symbol
pub withdraw_from_more : (n p syms : ℕ) (cells : List Cell) → withdraw_from n p (syms + 1) cells
    ≡ change_cell (withdraw_from n p syms cells) (place_of p syms) (withdrawn n)
unfolding withdraw_from
withdraw_from_more n p syms cells = rw add-one refl

pub withdraw_from_none : (n p : ℕ) (cells : List Cell) → withdraw_from n p 0 cells ≡ cells
unfolding withdraw_from
withdraw_from_none n p cells = refl

-- one cell changed keeps the number of cells
pub length-change_cell : (cells : List Cell) (i : ℕ) (f : Cell → Cell) → length (change_cell cells i f) ≡ length cells
length-change_cell cells i f = by_read (slice_get cells i)
  where
    by_read : (read : Option Cell) → length (set_if_some cells i f read) ≡ length cells
    by_read None = refl
    by_read (Some cell) = length-set cells i (f cell)

-- a withdrawal keeps it
pub length-withdraw_from : (n p syms : ℕ) (cells : List Cell) → length (withdraw_from n p syms cells) ≡ length cells
unfolding withdraw_from
length-withdraw_from n p zero cells = refl
length-withdraw_from n p (suc symbol) cells = length-change_cell (withdraw_from n p symbol cells) (place_of p symbol) (withdrawn n)
    ∙ length-withdraw_from n p symbol cells

-- a withdrawal leaves the cells of other participants, and those of later symbols
withdraw_from_elsewhere : (n p syms : ℕ) (cells : List Cell) (place : ℕ) → ((sym : ℕ) → sym < syms → place_of p sym ≢ place)
    → slice_get (withdraw_from n p syms cells) place ≡ slice_get cells place
unfolding withdraw_from
withdraw_from_elsewhere n p zero cells place ne = refl
withdraw_from_elsewhere n p (suc symbol) cells place ne =
    change_cell_elsewhere (withdraw_from n p symbol cells) (place_of p symbol) place (withdrawn n) (ne symbol (omega arith))
    ∙ withdraw_from_elsewhere n p symbol cells place (λ s below. ne s (omega arith))

withdraw_from_here : (n p syms sym : ℕ) (cells : List Cell) (cell : Cell) → sym < syms → slice_get cells (place_of p sym) ≡ Some cell
    → slice_get (withdraw_from n p syms cells) (place_of p sym) ≡ Some (withdrawn n cell)
unfolding withdraw_from
withdraw_from_here n p zero symbol cells cell below there = absurd (omega arith)
withdraw_from_here n p (suc last) symbol cells cell below there =
    elim (cases_eq last symbol) [
      | inl same ↦ subst (λ s. slice_get (change_cell (withdraw_from n p last cells) (place_of p s) (withdrawn n)) (place_of p symbol)
          ≡ Some (withdrawn n cell)) (sym same)
          (change_cell_here (withdraw_from n p last cells) (place_of p symbol) (withdrawn n) cell
          (withdraw_from_elsewhere n p last cells (place_of p symbol) (λ s s_below at. omega arith) ∙ there))
      | inr differ ↦ change_cell_elsewhere (withdraw_from n p last cells) (place_of p last) (place_of p symbol) (withdrawn n)
          (λ at. differ (omega arith))
          ∙ withdraw_from_here n p last symbol cells cell (omega arith) there
    ]

-- a board of 32 cells a symbol, at one of its cells
record IsCellOf (board : Board) (tape : Tape) (part sym : ℕ) : Type 0 where
  stands : StandsFor board tape
  in_parts : part < board.sizes.parts
  in_syms : sym < length board.sizes.lots

-- two cells are one, or they are at different places and a change of one says nothing of the other
data Meets (p s part sym : ℕ) : Type 0 where
  same : p ≡ part → s ≡ sym → Meets p s part sym
  apart : (p == part && s == sym) ≡ false → place_of p s ≢ place_of part sym → Meets p s part sym

meets : (p s part sym : ℕ) → p < 32 → part < 32 → Meets p s part sym
meets p s part symbol p_in part_in =
    elim (cases_eq (place_of p s) (place_of part symbol)) [
      | inl at ↦ same (omega arith) (omega arith)
      | inr ne ↦ apart (elsewhere p s part symbol (λ e d. ne (omega arith))) ne
    ]

-- a change of one cell, at each cell
one_cell_after : (board : Board) (tape : Tape) (change : Change) (part sym : ℕ) → IsCellOf board tape part sym
    → (p s : ℕ) (f : ℕ → Cell → Cell) → p < board.sizes.parts
    → (p ≡ part → s ≡ sym → cell_of part sym (tape ++ change ∷ []) ≡ f (length tape + 1) (cell_of part sym tape))
    → ((p == part && s == sym) ≡ false → cell_of part sym (tape ++ change ∷ []) ≡ cell_of part sym tape)
    → slice_get (change_cell board.cells (place_of p s) (f (board.applied + 1))) (place_of part sym)
    ≡ Some (cell_of part sym (tape ++ change ∷ []))
one_cell_after board tape change part symbol at p s f p_in here elsewhere =
    let stands = at.stands in
    let there = stands.cells part symbol at.in_parts at.in_syms in
    elim (meets p s part symbol (omega (arith, stands.narrow)) (omega (arith, stands.narrow, at.in_parts))) [
      | same part_is sym_is ↦
          rw (part_is, sym_is) (change_cell_here board.cells (place_of part symbol) (f (board.applied + 1)) (cell_of part symbol tape)
          there)
          ∙ ap (λ n. Some (f (n + 1) (cell_of part symbol tape))) stands.applied ∙ ap (λ cell. Some cell) (sym (here part_is sym_is))
      | apart unsaid ne ↦
          change_cell_elsewhere board.cells (place_of p s) (place_of part symbol) (f (board.applied + 1)) ne ∙ there
          ∙ ap (λ cell. Some cell) (sym (elsewhere unsaid))
    ]

-- each cell after a change, by the kind of change
cell_after : (board : Board) (tape : Tape) (change : Change) (part sym : ℕ) → IsCellOf board tape part sym → holds board.sizes change ≡ true
    → slice_get (cells_after (board.applied + 1) (length board.sizes.lots) board.cells change) (place_of part sym)
    ≡ Some (cell_of part sym (tape ++ change ∷ []))
cell_after board tape (Quote p s state bid offer) part symbol at held =
    one_cell_after board tape (Quote p s state bid offer) part symbol at p s (λ n. quoted n state bid offer)
    (ltb-true p board.sizes.parts (and_parts (nat_lt p board.sizes.parts) (nat_lt s (length board.sizes.lots)) held).0)
    (λ part_is sym_is. rw (part_is, sym_is) (cell_quoted part symbol state bid offer tape))
    (λ unsaid. cell_untouched part symbol tape (Quote p s state bid offer) (λ side. rw unsaid refl) (rw unsaid refl))
cell_after board tape (State p s state) part symbol at held =
    one_cell_after board tape (State p s state) part symbol at p s (λ n. restated state)
    (ltb-true p board.sizes.parts (and_parts (nat_lt p board.sizes.parts) (nat_lt s (length board.sizes.lots)) held).0)
    (λ part_is sym_is. rw (part_is, sym_is) (cell_restated part symbol state tape))
    (λ unsaid. cell_untouched part symbol tape (State p s state) (λ side. refl) (rw unsaid refl))
cell_after board tape (Withdraw p) part symbol at held =
    let stands = at.stands in
    let there = stands.cells part symbol at.in_parts at.in_syms in
    let p_in : p < board.sizes.parts = ltb-true p board.sizes.parts held in
    let n = board.applied + 1 in
    let syms = length board.sizes.lots in
    elim (cases_eq p part) [
      | inl part_is ↦
          rw part_is (withdraw_from_here n part syms symbol board.cells (cell_of part symbol tape) at.in_syms there)
          ∙ ap (λ n. Some (withdrawn (n + 1) (cell_of part symbol tape))) stands.applied
          ∙ ap (λ cell. Some cell) (rw part_is (sym (cell_withdrawn part symbol tape)))
      | inr differ ↦
          withdraw_from_elsewhere n p syms board.cells (place_of part symbol)
          (λ s below together. differ (omega (arith, stands.narrow, at.in_parts)))
          ∙ there ∙ ap (λ cell. Some cell) (sym (cell_untouched part symbol tape (Withdraw p) (λ side. rw (ne_eqb p part differ) refl)
          refl))
    ]
cell_after board tape (Lot s lot) part symbol at held =
    at.stands.cells part symbol at.in_parts at.in_syms
    ∙ ap (λ cell. Some cell) (sym (cell_untouched part symbol tape (Lot s lot) (λ side. refl) refl))

-- each symbol's lot after a change, by the kind of change
lots_stand : (board : Board) (tape : Tape) (change : Change) → StandsFor board tape → holds board.sizes change ≡ true → (sym : ℕ)
    → slice_get (lots_after board.lots change) sym ≡ lot_listed board.sizes (tape ++ change ∷ []) sym
lots_stand board tape (Quote p s state bid offer) stands held symbol = stands.lots symbol
    ∙ sym (lot_listed_unsaid board.sizes symbol tape (Quote p s state bid offer) refl)
lots_stand board tape (State p s state) stands held symbol = stands.lots symbol
    ∙ sym (lot_listed_unsaid board.sizes symbol tape (State p s state) refl)
lots_stand board tape (Withdraw p) stands held symbol = stands.lots symbol
    ∙ sym (lot_listed_unsaid board.sizes symbol tape (Withdraw p) refl)
lots_stand board tape (Lot s lot) stands held symbol =
    let change = Lot s lot in
    elim (cases_eq s symbol) [
      | inl here ↦
          let below : symbol < length board.sizes.lots = omega (arith, here, ltb-true s (length board.sizes.lots) held) in
          let opened = slice_get-get_or board.sizes.lots symbol 0 below in
          let listed : (t : Tape) → lot_listed board.sizes t symbol ≡ Some (lot_since symbol t (get_or board.sizes.lots symbol 0)) =
          λ t. ap (option_map (lot_since symbol t)) opened in
          let was = stands.lots symbol ∙ listed tape in
          let said : lot_said symbol change ≡ Some lot = rw (eq-eqb s symbol here) refl in
          let set : slice_get (slice_set board.lots s lot) symbol ≡ Some lot = rw here (slice_get-set_same board.lots symbol _ lot was) in
          let now : lot_listed board.sizes (tape ++ change ∷ []) symbol ≡ Some lot = lot_listed-push board.sizes symbol tape change
          ∙ rw (said, listed tape) refl in
          set ∙ sym now
      | inr differ ↦
          let unsaid : lot_said symbol change ≡ None = rw (ne_eqb s symbol differ) refl in
          slice_get-set_other board.lots s symbol lot differ ∙ stands.lots symbol
          ∙ sym (lot_listed_unsaid board.sizes symbol tape change unsaid)
    ]

length-lots_after : (lots : List ℕ) (change : Change) → length (lots_after lots change) ≡ length lots
length-lots_after lots (Quote p s state bid offer) = refl
length-lots_after lots (State p s state) = refl
length-lots_after lots (Withdraw p) = refl
length-lots_after lots (Lot s lot) = length-set lots s lot

pub stands_after : (board : Board) (tape : Tape) (change : Change) → StandsFor board tape → takes board change ≡ true
    → StandsFor (after board change) (tape ++ change ∷ [])
stands_after board tape change stands taken =
    let held = (and_parts (holds board.sizes change) (nat_lt board.applied 10000000) taken).0 in
    record {
      applied = ap (λ n. n + 1) stands.applied ∙ sym (length-append tape (change ∷ []));
      narrow = stands.narrow;
      lots = lots_stand board tape change stands held;
      cells = λ part symbol in_parts in_syms. cell_after board tape change part symbol
          (record { stands = stands; in_parts = in_parts; in_syms = in_syms }) held;
    }

-- and so does every change
length-cells_after : (n syms : ℕ) (cells : List Cell) (change : Change) → length (cells_after n syms cells change) ≡ length cells
length-cells_after n syms cells (Quote part symbol state bid offer) =
    length-change_cell cells (place_of part symbol) (quoted n state bid offer)
length-cells_after n syms cells (State part symbol state) = length-change_cell cells (place_of part symbol) (restated state)
length-cells_after n syms cells (Withdraw part) = length-withdraw_from n part syms cells
length-cells_after n syms cells (Lot symbol lot) = refl

-- a board stays a board
pub board_after : (board : Board) (change : Change) → IsBoard board → takes board change ≡ true → IsBoard (after board change)
board_after board change is taken =
    let room = ltb-true board.applied MOST_CHANGES (and_parts (holds board.sizes change) (nat_lt board.applied MOST_CHANGES) taken).1 in
    record {
      shape = record {
        parts = is.shape.parts;
        syms = is.shape.syms;
        lots = length-lots_after board.lots change ∙ is.shape.lots;
        cells = length-cells_after (board.applied + 1) (length board.sizes.lots) board.cells change ∙ is.shape.cells;
        applied = omega arith;
      };
      tape = is.tape ++ change ∷ [];
      stands = stands_after board is.tape change is.stands taken;
    }

-- the symbol of a change that a board takes is of the roster
pub quoted_below : (board : Board) (part sym : ℕ) (state : QState) (bid offer : Option Content)
    → takes board (Quote part sym state bid offer) ≡ true → sym < length board.sizes.lots
quoted_below board part symbol state bid offer taken =
    let held = (and_parts (holds board.sizes (Quote part symbol state bid offer)) (nat_lt board.applied MOST_CHANGES) taken).0 in
    ltb-true symbol (length board.sizes.lots) (and_parts (nat_lt part board.sizes.parts) (nat_lt symbol (length board.sizes.lots)) held).1

pub restated_below : (board : Board) (part sym : ℕ) (state : QState) → takes board (State part sym state) ≡ true
    → sym < length board.sizes.lots
restated_below board part symbol state taken =
    let held = (and_parts (holds board.sizes (State part symbol state)) (nat_lt board.applied MOST_CHANGES) taken).0 in
    ltb-true symbol (length board.sizes.lots) (and_parts (nat_lt part board.sizes.parts) (nat_lt symbol (length board.sizes.lots)) held).1

pub relotted_below : (board : Board) (sym lot : ℕ) → takes board (Lot sym lot) ≡ true → sym < length board.sizes.lots
relotted_below board symbol lot taken =
    ltb-true symbol (length board.sizes.lots) (and_parts (holds board.sizes (Lot symbol lot)) (nat_lt board.applied MOST_CHANGES) taken).0

-- a symbol out of the roster has lot 0, which shows nothing
quotation_no_lot : (lot part : ℕ) (state : Option QState) (receipt : ℕ) (content : Option Content) → lot ≡ 0
    → quotation lot part state receipt content ≡ None
quotation_no_lot lot part state receipt None no_lot = refl
quotation_no_lot lot part state receipt (Some content) no_lot =
    rw (no_lot, eq-eqb (content.shares / 0 * 0) 0 (mul-zero (content.shares / 0))) (hidden (is_halted state))
  where
    hidden : (b : Bool) → (if b then None else None) ≡ (let none : Option Row = None in none)
    hidden true = refl
    hidden false = refl

row_held_no_lot : (board : Board) (sym : ℕ) (side : Side) (part : ℕ) → slice_index board.lots sym ≡ 0 → row_held board sym side part ≡ None
row_held_no_lot board symbol side part no_lot = by_read (slice_get board.cells (place_of part symbol))
  where
    by_read : (read : Option Cell) → option_and_then (row_of_cell (slice_index board.lots symbol) part side) read ≡ None
    by_read None = refl
    by_read (Some cell) = quotation_no_lot (slice_index board.lots symbol) part cell.state (on_side side cell.bid cell.offer).receipt
        (on_side side cell.bid cell.offer).quote no_lot

-- no rows of a symbol out of the roster
pub rows_held_unlisted : (board : Board) (sym : ℕ) (side : Side) → slice_get board.lots sym ≡ None → rows_held board sym side ≡ []
rows_held_unlisted board symbol side unlisted =
    let no_lot : slice_index board.lots symbol ≡ 0 = sym (unwrap_or-slice_get board.lots symbol 0) ∙ rw unlisted refl in
    filter_map_none (row_held board symbol side) 0 board.sizes.parts (λ part. row_held_no_lot board symbol side part no_lot)

row_of_cell_of : (lot part sym : ℕ) (side : Side) (tape : Tape)
    → row_of_cell lot part side (cell_of part sym tape)
    ≡ quotation lot part (state_at part sym tape) (receipt_of part sym side tape) (content_at part sym side tape)
row_of_cell_of lot part symbol Bid tape = refl
row_of_cell_of lot part symbol Offer tape = refl

-- what the cells show is what the tape says
pub row_stands : (board : Board) (tape : Tape) (sym : ℕ) (side : Side) (part : ℕ) → StandsFor board tape → part < board.sizes.parts
    → row_held board sym side part ≡ quotation_of board.sizes tape sym side part
row_stands board tape symbol side part stands in_parts =
    let lot = lot_at board.sizes tape symbol in
    let lot_is : slice_index board.lots symbol ≡ lot = sym (unwrap_or-slice_get board.lots symbol 0)
    ∙ ap (λ (l : Option ℕ). unwrap_or l 0) (stands.lots symbol) in
    elim (cases_lt symbol (length board.sizes.lots)) [
      | inl in_syms ↦ rw (stands.cells part symbol in_parts in_syms, lot_is) (row_of_cell_of lot part symbol side tape)
      | inr past ↦
          let no_lot : lot ≡ 0 = ap (λ (l : Option ℕ). unwrap_or (option_map (lot_since symbol tape) l) 0)
          (slice_get_past board.sizes.lots symbol past) in
          row_held_no_lot board symbol side part (lot_is ∙ no_lot)
          ∙ sym (quotation_no_lot lot part (state_at part symbol tape) (receipt_of part symbol side tape) (content_at part symbol side tape)
          no_lot)
    ]

pub rows_stand : (board : Board) (tape : Tape) (sym : ℕ) (side : Side) → StandsFor board tape
    → rows_held board sym side ≡ quotations board.sizes tape sym side
rows_stand board tape symbol side stands =
    filter_map_same (row_held board symbol side) (quotation_of board.sizes tape symbol side) 0 board.sizes.parts
    (λ part low high. row_stands board tape symbol side part stands (omega arith))

pub seen_stands : (board : Board) (tape : Tape) (sym : ℕ) → StandsFor board tape → seen_on board sym ≡ view_of board.sizes tape sym
seen_stands board tape symbol stands =
    rw (stands.applied, rows_stand board tape symbol Bid stands, rows_stand board tape symbol Offer stands) refl

-- a cell of one symbol is none of another's
other_symbol : (p s part sym : ℕ) → p < MOST_ROWS → part < MOST_ROWS → (s == sym) ≡ false → place_of p s ≢ place_of part sym
other_symbol p s part symbol p_in part_in differ at =
    let same : s ≡ symbol = omega arith in
    absurd (false≢true (sym differ ∙ eq-eqb s symbol same))

-- the cells of a symbol that a change does not concern stay
cell_stays : (board : Board) (change : Change) (sym part : ℕ) → board.sizes.parts ≤ MOST_ROWS → holds board.sizes change ≡ true
    → concerns sym change ≡ false → part < MOST_ROWS
    → slice_get (cells_after (board.applied + 1) (length board.sizes.lots) board.cells change) (place_of part sym)
    ≡ slice_get board.cells (place_of part sym)
cell_stays board (Quote p s state bid offer) symbol part narrow held unconcerned part_in =
    let p_in : p < board.sizes.parts =
    ltb-true p board.sizes.parts (and_parts (nat_lt p board.sizes.parts) (nat_lt s (length board.sizes.lots)) held).0 in
    change_cell_elsewhere board.cells (place_of p s) (place_of part symbol) (quoted (board.applied + 1) state bid offer)
    (other_symbol p s part symbol (omega arith) part_in unconcerned)
cell_stays board (State p s state) symbol part narrow held unconcerned part_in =
    let p_in : p < board.sizes.parts =
    ltb-true p board.sizes.parts (and_parts (nat_lt p board.sizes.parts) (nat_lt s (length board.sizes.lots)) held).0 in
    change_cell_elsewhere board.cells (place_of p s) (place_of part symbol) (restated state)
    (other_symbol p s part symbol (omega arith) part_in unconcerned)
cell_stays board (Withdraw p) symbol part narrow held unconcerned part_in = absurd (cc)
cell_stays board (Lot s lot) symbol part narrow held unconcerned part_in = refl

-- and so does its lot
lot_stays : (lots : List ℕ) (change : Change) (sym : ℕ) → concerns sym change ≡ false
    → slice_index (lots_after lots change) sym ≡ slice_index lots sym
lot_stays lots (Quote p s state bid offer) symbol unconcerned = refl
lot_stays lots (State p s state) symbol unconcerned = refl
lot_stays lots (Withdraw p) symbol unconcerned = refl
lot_stays lots (Lot s lot) symbol unconcerned =
    get_or-set_other lots s symbol lot 0 (λ same. false≢true (sym unconcerned ∙ eq-eqb s symbol (sym same)))

-- and so do its quotations
pub rows_stay : (board : Board) (change : Change) (sym : ℕ) (side : Side) → board.sizes.parts ≤ MOST_ROWS → holds board.sizes change ≡ true
    → concerns sym change ≡ false
    → rows_held (after board change) sym side ≡ rows_held board sym side
rows_stay board change symbol side narrow held unconcerned =
    filter_map_same (row_held (after board change) symbol side) (row_held board symbol side) 0 board.sizes.parts
    (λ part low high.
    ap (λ (lot : ℕ). option_and_then (row_of_cell lot part side) (slice_get (after board change).cells (place_of part symbol)))
    (lot_stays board.lots change symbol unconcerned)
    ∙ ap (λ (cell : Option Cell). option_and_then (row_of_cell (slice_index board.lots symbol) part side) cell)
    (cell_stays board change symbol part narrow held unconcerned (omega arith)))
