-- Boards that show alike show alike after the same change: contents and states follow from the change, and what it
-- alters is the latest on both.
use Rattle.std.proofs.Common.{◌≡◌, ℕ, ◌+◌, ◌<◌, ◌≤◌, Bool, true, [], ◌∷◌, ◌++◌, length, Option, Some, None, option_map, slice_get}
use Rattle.std.proofs.Common.{unwrap_or, if◌then◌else◌, refl, sym, ap, ap₂, subst, ◌∙◌, inl, inr, arith}
use Rattle.std.specs.Option.{is_some, option_or}
use Rattle.std.proofs.lemmas.Bool.{cases_Bool, false≢true}
use Rattle.nms_quote.specs.Content.{Content}
use Rattle.nms_quote.specs.Roster.{Sizes}
use Rattle.nms_quote.specs.Tape.{Tape}
use Rattle.nms_quote.specs.declared.side_quote.Side.{Side}
use Rattle.nms_quote.specs.declared.side_quote.QState.{QState}
use Rattle.nms_quote.specs.declared.change.Change.{Change}
use Rattle.nms_board.specs.Cells.{Board, IsBoard, after, takes}
use Rattle.nms_board.specs.History.{content_at, lot_said, receipt_of, said_of, same_content, state_said}
use Rattle.nms_board.specs.Holding.{Holding}
use Rattle.nms_board.proofs.Offered.{content_at-push, lot_listed-push, receipt_is_least, receipt_of-push, same_content-true, stands_after}
use Rattle.nms_board.proofs.Offered.{state_at-push}
use Rattle.nms_opening.specs.Alike.{ShowAlike, content_on, held_at, is_earlier, stands, state_in}
use Rattle.nms_opening.proofs.BoardFacts.{read_at, said_with_state}
use Rattle.nms_opening.proofs.HeldFacts.{lt_same}

-- a board before and after a change, at one participant of a symbol
record IsChanged (board : Board) (sym : ℕ) (change : Change) (part : ℕ) : Type 0 where
  content : (side : Side) → content_on (after board change) sym side part
      ≡ unwrap_or (said_of part sym side change) (content_on board sym side part)
  state : state_in (after board change) sym part ≡ option_or (state_said part sym change) (state_in board sym part)
  receipt : (side : Side) → (held_at (after board change) sym side part).receipt
      ≡ (if same_content (content_on board sym side part) (content_on (after board change) sym side part)
      then (held_at board sym side part).receipt else board.applied + 1)
  within : (side : Side) → (held_at board sym side part).receipt ≤ board.applied

changed : (board : Board) (sym : ℕ) (change : Change) (part : ℕ) → IsBoard board → takes board change ≡ true → sym < length board.sizes.lots
    → part < board.sizes.parts → IsChanged board sym change part
changed board symbol change part is taken in_syms in_parts =
    let tape = is.tape in
    let longer : Tape = tape ++ change ∷ [] in
    let before = read_at board tape symbol part is.stands in_parts in_syms in
    let now = read_at (after board change) longer symbol part (stands_after board tape change is.stands taken) in_parts in_syms in
    let was : (side : Side) → content_on board symbol side part ≡ content_at part symbol side tape =
    λ side. ap (λ (h : Holding). h.quote) (before.held side) in
    let becomes : (side : Side) → content_on (after board change) symbol side part ≡ content_at part symbol side longer =
    λ side. ap (λ (h : Holding). h.quote) (now.held side) in
    let receipt : (side : Side) → (held_at board symbol side part).receipt ≡ receipt_of part symbol side tape =
    λ side. ap (λ (h : Holding). h.receipt) (before.held side) in
    record {
      content = λ side. becomes side ∙ content_at-push part symbol side tape change
          ∙ ap (λ (o : Option Content). unwrap_or (said_of part symbol side change) o) (sym (was side));
      state = now.state ∙ state_at-push part symbol tape change
          ∙ ap (λ (o : Option QState). option_or (state_said part symbol change) o) (sym before.state);
      receipt = λ side. ap (λ (h : Holding). h.receipt) (now.held side) ∙ receipt_of-push part symbol side tape change
          ∙ rw (becomes side, was side, receipt side, is.stands.applied) refl;
      within = λ side. omega (arith, receipt side, (receipt_is_least part symbol side tape).within, is.stands.applied);
    }

-- the round lot after a change follows from the lot before
lot_after : (board : Board) (sym : ℕ) (change : Change) → IsBoard board → takes board change ≡ true
    → slice_get (after board change).lots sym ≡ option_map (unwrap_or (lot_said sym change)) (slice_get board.lots sym)
lot_after board symbol change is taken =
    (stands_after board is.tape change is.stands taken).lots symbol ∙ lot_listed-push board.sizes symbol is.tape change
    ∙ ap (option_map (unwrap_or (lot_said symbol change))) (sym (is.stands.lots symbol))

-- the order of receipts of two sides with the same content on both boards, before and after
record Both (one other : Board) (sym : ℕ) (change : Change) (side : Side) (part : ℕ) : Type 0 where
  one_changed : IsChanged one sym change part
  other_changed : IsChanged other sym change part
  before : content_on one sym side part ≡ content_on other sym side part
  now : content_on (after one change) sym side part ≡ content_on (after other change) sym side part
  something : stands (after one change) sym side part ≡ true

-- both moved, or neither
data Moved (one other : Board) (sym : ℕ) (change : Change) (side : Side) (part : ℕ) : Type 0 where
  neither : stands one sym side part ≡ true
      → (held_at (after one change) sym side part).receipt ≡ (held_at one sym side part).receipt
      → (held_at (after other change) sym side part).receipt ≡ (held_at other sym side part).receipt
      → (held_at one sym side part).receipt ≤ one.applied → (held_at other sym side part).receipt ≤ other.applied
      → Moved one other sym change side part
  both : (held_at (after one change) sym side part).receipt ≡ one.applied + 1
      → (held_at (after other change) sym side part).receipt ≡ other.applied + 1 → Moved one other sym change side part

moved : (one other : Board) (sym : ℕ) (change : Change) (side : Side) (part : ℕ) → Both one other sym change side part
    → Moved one other sym change side part
moved one other symbol change side part of =
    let one_test : Bool = same_content (content_on one symbol side part) (content_on (after one change) symbol side part) in
    let test_is : same_content (content_on one symbol side part) (content_on (after one change) symbol side part)
    ≡ same_content (content_on other symbol side part) (content_on (after other change) symbol side part) =
    ap₂ same_content of.before of.now in
    elim (cases_Bool one_test) [
      | inl same ↦
          neither
          (ap (λ (o : Option Content). is_some o)
          (same_content-true (content_on one symbol side part) (content_on (after one change) symbol side part) same) ∙ of.something)
          (of.one_changed.receipt side ∙ rw same refl)
          (of.other_changed.receipt side ∙ rw (← test_is, same) refl)
          (of.one_changed.within side)
          (of.other_changed.within side)
      | inr differ ↦
          both (of.one_changed.receipt side ∙ rw differ refl) (of.other_changed.receipt side ∙ rw (← test_is, differ) refl)
    ]

order_stays : (one other : Board) (sym : ℕ) (change : Change) (side along : Side) (part second : ℕ)
    → (stands one sym side part ≡ true → stands one sym along second ≡ true
    → is_earlier one sym side part along second ≡ is_earlier other sym side part along second)
    → Moved one other sym change side part → Moved one other sym change along second
    → is_earlier (after one change) sym side part along second ≡ is_earlier (after other change) sym side part along second
order_stays one other symbol change side along part second before (neither st k k' w w') (neither st2 k2 k2' w2 w2') =
    rw (k, k2, k', k2') (before st st2)
order_stays one other symbol change side along part second before (neither st k k' w w') (both m m') =
    lt_same (held_at (after one change) symbol side part).receipt (held_at (after one change) symbol along second).receipt
    (held_at (after other change) symbol side part).receipt (held_at (after other change) symbol along second).receipt
    (λ _. omega (arith, k', w', m')) (λ past. absurd (omega (arith, past, k, w, m)))
order_stays one other symbol change side along part second before (both m m') (neither st k k' w w') =
    lt_same (held_at (after one change) symbol side part).receipt (held_at (after one change) symbol along second).receipt
    (held_at (after other change) symbol side part).receipt (held_at (after other change) symbol along second).receipt
    (λ sooner. absurd (omega (arith, sooner, k, w, m))) (λ _. omega (arith, k', w', m'))
order_stays one other symbol change side along part second before (both m m') (both m2 m2') =
    lt_same (held_at (after one change) symbol side part).receipt (held_at (after one change) symbol along second).receipt
    (held_at (after other change) symbol side part).receipt (held_at (after other change) symbol along second).receipt
    (λ sooner. absurd (omega (arith, sooner, m, m2))) (λ _. omega (arith, m', m2'))

-- the state of a side that is quoted after a change
state_stays : (part sym : ℕ) (side : Side) (change : Change) (content : Option Content) (state state' : Option QState)
    → (is_some content ≡ true → state ≡ state') → is_some (unwrap_or (said_of part sym side change) content) ≡ true
    → option_or (state_said part sym change) state ≡ option_or (state_said part sym change) state'
state_stays part symbol side change content state state' before something =
    by_said (said_of part symbol side change) (state_said part symbol change) (said_with_state part symbol side change) something
  where
    by_said : (said : Option (Option Content)) (given : Option QState) → (is_some (unwrap_or said None) ≡ true → is_some given ≡ true)
        → is_some (unwrap_or said content) ≡ true → option_or given state ≡ option_or given state'
    by_said said (Some q) link something = refl
    by_said None None link something = before something
    by_said (Some new) None link something = absurd (false≢true (link something))

pub stay_alike : (one other : Board) (sym : ℕ) (change : Change) → IsBoard one → IsBoard other → takes one change ≡ true
    → takes other change ≡ true → sym < length one.sizes.lots → ShowAlike one other sym
    → ShowAlike (after one change) (after other change) sym
stay_alike one other symbol change one_is other_is one_takes other_takes in_syms alike =
    let other_in : symbol < length other.sizes.lots = subst (λ (sizes : Sizes). symbol < length sizes.lots) alike.roster in_syms in
    let one_at : (part : ℕ) → part < one.sizes.parts → IsChanged one symbol change part =
    λ part in_parts. changed one symbol change part one_is one_takes in_syms in_parts in
    let other_at : (part : ℕ) → part < one.sizes.parts → IsChanged other symbol change part =
    λ part in_parts. changed other symbol change part other_is other_takes other_in
    (subst (λ (sizes : Sizes). part < sizes.parts) alike.roster in_parts) in
    let contents : (side : Side) (part : ℕ) → part < one.sizes.parts
    → content_on (after one change) symbol side part ≡ content_on (after other change) symbol side part =
    λ side part in_parts.
    (one_at part in_parts).content side
    ∙ ap (λ (o : Option Content). unwrap_or (said_of part symbol side change) o) (alike.contents side part in_parts)
    ∙ sym ((other_at part in_parts).content side) in
    let moves : (side : Side) (part : ℕ) → part < one.sizes.parts → stands (after one change) symbol side part ≡ true
    → Moved one other symbol change side part =
    λ side part in_parts something. moved one other symbol change side part (record {
      one_changed = one_at part in_parts;
      other_changed = other_at part in_parts;
      before = alike.contents side part in_parts;
      now = contents side part in_parts;
      something = something;
    }) in
    record {
      roster = alike.roster;
      lot = lot_after one symbol change one_is one_takes
          ∙ ap (option_map (unwrap_or (lot_said symbol change))) alike.lot
          ∙ sym (lot_after other symbol change other_is other_takes);
      contents = contents;
      states = λ side part in_parts something.
          (one_at part in_parts).state
          ∙ state_stays part symbol side change (content_on one symbol side part) (state_in one symbol part) (state_in other symbol part)
          (alike.states side part in_parts)
          (sym (ap (λ (o : Option Content). is_some o) ((one_at part in_parts).content side)) ∙ something)
          ∙ sym (other_at part in_parts).state;
      order = λ side along part second in_parts second_in something second_something.
          order_stays one other symbol change side along part second (alike.order side along part second in_parts second_in)
          (moves side part in_parts something) (moves along second second_in second_something);
    }
