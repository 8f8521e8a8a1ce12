-- A board's history and the sides that are quoted in a symbol.
use Rattle.std.proofs.Common.{◌≡◌, ◌≢◌, ℕ, ◌<◌, ◌≤◌, ◌==◌, ◌&&◌, Bool, true, false, [], ◌∷◌, length, Option, Some, None, slice_get}
use Rattle.std.proofs.Common.{unwrap_or, if◌then◌else◌, refl, sym, ap, ◌∙◌, arith}
use Rattle.std.specs.List.{filter_map, cons_option, last_or}
use Rattle.std.specs.Option.{is_some}
use Rattle.std.proofs.lemmas.Bool.{false≢true}
use Rattle.nms_quote.specs.Content.{Content}
use Rattle.nms_quote.specs.Tape.{Tape}
use Rattle.nms_quote.specs.declared.side_quote.Side.{Side}
use Rattle.nms_quote.specs.declared.side_quote.Side.TheVariants.{Bid, Offer}
use Rattle.nms_quote.specs.declared.side_quote.QState.{QState}
use Rattle.nms_quote.specs.declared.change.Change.{Change}
use Rattle.nms_quote.specs.declared.change.Change.TheVariants.{Lot, Quote, State, Withdraw}
use Rattle.nms_board.specs.Cells.{Board, IsBoard, StandsFor, cell_of, empty_cell, held_of, place_of}
use Rattle.nms_board.specs.History.{content_at, on_side, receipt_of, said_of, state_at, state_said}
use Rattle.nms_board.specs.Holding.{Holding}
use Rattle.nms_board.specs.declared.cell.Cell.{Cell}
use Rattle.nms_board.proofs.Offered.{receipt_counts, receipt_is_least, receipts_differ}
use Rattle.nms_opening.specs.Alike.{cell_at, held_at, stands, state_in}

pub is_some-not_none : {X : Type 0} (o : Option X) → is_some o ≡ true → o ≢ None
is_some-not_none None some none = false≢true some
is_some-not_none (Some x) some none = absurd (cc)

pub is_some-value : {X : Type 0} (o : Option X) → is_some o ≡ true → (x : X) × (o ≡ Some x)
is_some-value None some = absurd (false≢true some)
is_some-value (Some x) some = (x, refl)

-- a change that puts something on a side gives the participant a state
pub said_with_state : (part sym : ℕ) (side : Side) (change : Change) → is_some (unwrap_or (said_of part sym side change) None) ≡ true
    → is_some (state_said part sym change) ≡ true
said_with_state part symbol side (Quote p s state bid offer) puts = by_test (p == part && s == symbol) puts
  where
    by_test : (here : Bool) → is_some (unwrap_or (if here then Some (on_side side bid offer) else None) None) ≡ true
        → is_some (if here then Some state else None) ≡ true
    by_test true puts = refl
    by_test false puts = absurd (false≢true puts)
said_with_state part symbol side (State p s state) puts = absurd (false≢true puts)
said_with_state part symbol side (Withdraw p) puts = absurd (by_test (p == part) puts)
  where
    by_test : (here : Bool) → is_some {T = Content} (unwrap_or (if here then Some None else None) None) ≡ true → ⊥
    by_test true puts = false≢true puts
    by_test false puts = false≢true puts
said_with_state part symbol side (Lot s lot) puts = absurd (false≢true puts)

-- a side that is quoted at the end has a state, after any history
stated_since : (part sym : ℕ) (side : Side) (tape : Tape) (said : Option (Option Content)) (state : Option QState)
    → (is_some (unwrap_or said None) ≡ true → is_some state ≡ true)
    → is_some (unwrap_or (last_or said (filter_map (said_of part sym side) tape)) None) ≡ true
    → is_some (last_or state (filter_map (state_said part sym) tape)) ≡ true
stated_since part symbol side [] said state so_far stands = so_far stands
stated_since part symbol side (change ∷ tape) said state so_far stands =
    by_said (said_of part symbol side change) (state_said part symbol change) (said_with_state part symbol side change)
    (stated_since part symbol side tape) stands
  where
    by_said : (new : Option (Option Content)) (given : Option QState) → (is_some (unwrap_or new None) ≡ true → is_some given ≡ true)
        → ((said : Option (Option Content)) (state : Option QState) → (is_some (unwrap_or said None) ≡ true → is_some state ≡ true)
        → is_some (unwrap_or (last_or said (filter_map (said_of part symbol side) tape)) None) ≡ true
        → is_some (last_or state (filter_map (state_said part symbol) tape)) ≡ true)
        → is_some (unwrap_or (last_or said (cons_option new (filter_map (said_of part symbol side) tape))) None) ≡ true
        → is_some (last_or state (cons_option given (filter_map (state_said part symbol) tape))) ≡ true
    by_said None None link rest puts = rest said state so_far puts
    by_said None (Some q) link rest puts = rest said (Some q) (λ _. refl) puts
    by_said (Some new) None link rest puts = rest (Some new) state (λ puts_new. absurd (false≢true (link puts_new))) puts
    by_said (Some new) (Some q) link rest puts = rest (Some new) (Some q) (λ _. refl) puts

-- a side that is quoted is of a participant with a state
stated_at : (part sym : ℕ) (side : Side) (tape : Tape) → is_some (content_at part sym side tape) ≡ true
    → is_some (state_at part sym tape) ≡ true
stated_at part symbol side tape stands = stated_since part symbol side tape None None (λ e. absurd (false≢true e)) stands

-- a board's cells, read at a symbol
pub record IsRead (board : Board) (tape : Tape) (sym part : ℕ) : Type 0 where
  pub there : slice_get board.cells (place_of part sym) ≡ Some (cell_at board sym part)
  pub held : (side : Side) → held_at board sym side part ≡ held_of part sym side tape
  pub state : state_in board sym part ≡ state_at part sym tape

pub read_at : (board : Board) (tape : Tape) (sym part : ℕ) → StandsFor board tape → part < board.sizes.parts → sym < length board.sizes.lots
    → IsRead board tape sym part
read_at board tape symbol part stands in_parts in_syms =
    let there = stands.cells part symbol in_parts in_syms in
    let same : cell_at board symbol part ≡ cell_of part symbol tape = ap (λ (cell : Option Cell). unwrap_or cell empty_cell) there in
    record {
      there = there ∙ ap Some (sym same);
      held = λ side. by_side side same;
      state = ap (λ (cell : Cell). cell.state) same;
    }
  where
    by_side : (side : Side) → cell_at board symbol part ≡ cell_of part symbol tape
        → held_at board symbol side part ≡ held_of part symbol side tape
    by_side Bid same = ap (λ (cell : Cell). cell.bid) same
    by_side Offer same = ap (λ (cell : Cell). cell.offer) same

-- the sides of a symbol: each receipt is the number of a change, no two participants' quoted sides have one, and a participant
-- with a quoted side has a state
pub record IsSound (board : Board) (sym : ℕ) : Type 0 where
  pub there : (part : ℕ) → part < board.sizes.parts → slice_get board.cells (place_of part sym) ≡ Some (cell_at board sym part)
  pub counts : (side : Side) (part : ℕ) → part < board.sizes.parts → stands board sym side part ≡ true
      → 1 ≤ (held_at board sym side part).receipt
  pub within : (side : Side) (part : ℕ) → part < board.sizes.parts → (held_at board sym side part).receipt ≤ board.applied
  pub apart : (side along : Side) (part second : ℕ) → part < board.sizes.parts → second < board.sizes.parts → part ≢ second
      → stands board sym side part ≡ true → stands board sym along second ≡ true
      → (held_at board sym side part).receipt ≢ (held_at board sym along second).receipt
  pub stated : (side : Side) (part : ℕ) → part < board.sizes.parts → stands board sym side part ≡ true
      → is_some (state_in board sym part) ≡ true

pub sound : (board : Board) (sym : ℕ) → IsBoard board → sym < length board.sizes.lots → IsSound board sym
sound board symbol is in_syms =
    let tape = is.tape in
    let read : (part : ℕ) → part < board.sizes.parts → IsRead board tape symbol part =
    λ part in_parts. read_at board tape symbol part is.stands in_parts in_syms in
    let quotes : (side : Side) (part : ℕ) → part < board.sizes.parts → stands board symbol side part ≡ true
    → is_some (content_at part symbol side tape) ≡ true =
    λ side part in_parts something. sym (ap (λ (h : Holding). is_some h.quote) ((read part in_parts).held side)) ∙ something in
    let receipt : (side : Side) (part : ℕ) → part < board.sizes.parts
    → (held_at board symbol side part).receipt ≡ receipt_of part symbol side tape =
    λ side part in_parts. ap (λ (h : Holding). h.receipt) ((read part in_parts).held side) in
    record {
      there = λ part in_parts. (read part in_parts).there;
      counts = λ side part in_parts something.
          omega (
            arith,
            receipt side part in_parts,
            receipt_counts part symbol side tape
                (is_some-not_none (content_at part symbol side tape) (quotes side part in_parts something)),
          );
      within = λ side part in_parts.
          omega (arith, receipt side part in_parts, (receipt_is_least part symbol side tape).within, is.stands.applied);
      apart = λ side along part second in_parts second_in differ something second_something equal.
          receipts_differ symbol tape part second side along differ
          (is_some-not_none (content_at part symbol side tape) (quotes side part in_parts something))
          (is_some-not_none (content_at second symbol along tape) (quotes along second second_in second_something))
          (sym (receipt side part in_parts) ∙ equal ∙ receipt along second second_in);
      stated = λ side part in_parts something.
          ap (λ (state : Option QState). is_some state) (read part in_parts).state
          ∙ stated_at part symbol side tape (quotes side part in_parts something);
    }
