-- If two tapes say the same about a symbol of theirs, they show the same for it. Contents, states and lots follow from what was
-- said, and what a change alters is the latest on both.
use Rattle.std.proofs.Common.{◌≡◌, ℕ, zero, suc, ◌+◌, ◌*◌, ◌<◌, ◌≤◌, ◌==◌, ◌&&◌, Bool, true, false, All, List, [], ◌∷◌, ◌++◌, length, map}
use Rattle.std.proofs.Common.{Option, Some, None, option_map, slice_get, unwrap_or, if◌then◌else◌, nat_lt, fold, append_assoc}
use Rattle.std.proofs.Common.{refl, sym, ap, ap₂, subst, ◌∙◌, inl, inr, arith, lt-ltb}
use Rattle.std.specs.List.{cons_option, filter_map, range_with_len}
use Rattle.std.specs.Option.{is_some, option_or}
use Rattle.std.proofs.lemmas.Bool.{and_from, cases_Bool, cases_lt, false≢true}
use Rattle.std.proofs.lemmas.Bool.Decides.{nat_tests}
use Rattle.std.proofs.lemmas.List.{append-nil}
use Rattle.std.proofs.lemmas.List.Elements.{All-head, All-tail, filter_map-append}
use Rattle.nms_quote.specs.Content.{Content}
use Rattle.nms_quote.specs.Roster.{Sizes, holds}
use Rattle.nms_quote.specs.Tape.{Tape}
use Rattle.nms_quote.specs.declared.side_quote.Side.{Side}
use Rattle.nms_quote.specs.declared.side_quote.Side.TheVariants.{Bid, Offer}
use Rattle.nms_quote.specs.declared.side_quote.QState.{QState}
use Rattle.nms_quote.specs.declared.change.Change.{Change}
use Rattle.nms_quote.specs.declared.change.Change.TheVariants.{Lot, Quote, State, Withdraw}
use Rattle.nms_board.specs.Cells.{Board, StandsFor, after, cell_of, empty_cell, held_of, opening, place_of}
use Rattle.nms_board.specs.History.{before_equal_end, content_at, lot_at, lot_listed, lot_said, lot_since, on_side, receipt_of, said_of}
use Rattle.nms_board.specs.History.{same_content, state_at, state_said}
use Rattle.nms_board.specs.Holding.{Holding}
use Rattle.nms_board.specs.Quotation.{quotation, quotation_of, quotations}
use Rattle.nms_board.specs.Ranking.{ranked}
use Rattle.nms_board.specs.Shown.{row_held, row_of_cell, rows_held}
use Rattle.nms_board.specs.View.{Seen}
use Rattle.nms_board.specs.declared.cell.Cell.{Cell}
use Rattle.nms_board.specs.declared.row.Row.{Row}
use Rattle.nms_board.proofs.Offered.{content_at-push, lot_listed-push, receipt_is_least, receipt_of-push, same_content-refl}
use Rattle.nms_board.proofs.Offered.{same_content-true, seen_stands, slice_get-replicate_below, stands_after, state_at-push}
use Rattle.nms_opening.specs.Alike.{ShowAlike, ShowSame, cell_at, held_at, shown_in_order, stands, unnumbered}
use Rattle.nms_opening.specs.Opening.{HasNothing, OpensSymbol}
use Rattle.nms_shards.specs.OfSymbol.{IsCut, IsOfShard, of_symbol, said_of_symbol, shows}

-- ---- the relation

-- whether a side has a quotation
abbrev stood : ℕ → ℕ → Side → Tape → Bool
stood part symbol side tape = is_some (content_at part symbol side tape)

-- two tapes, each of its roster, are alike at a symbol that both have
record Alike (whole shard : Sizes) (one other : Tape) (sym own : ℕ) : Type 0 where
  lot : lot_listed whole one sym ≡ lot_listed shard other own
  content : (side : Side) (part : ℕ) → part < whole.parts → content_at part sym side one ≡ content_at part own side other
  state : (side : Side) (part : ℕ) → part < whole.parts → stood part sym side one ≡ true → state_at part sym one ≡ state_at part own other
  order : (side along : Side) (part second : ℕ) → part < whole.parts → second < whole.parts
      → stood part sym side one ≡ true → stood second sym along one ≡ true
      → nat_lt (receipt_of part sym side one) (receipt_of second sym along one)
      ≡ nat_lt (receipt_of part own side other) (receipt_of second own along other)

alike_both : (whole middle shard : Sizes) (one two three : Tape) (a b c : ℕ) → whole.parts ≡ middle.parts
    → Alike whole middle one two a b → Alike middle shard two three b c → Alike whole shard one three a c
alike_both whole middle shard one two three a b c parts first next =
    let in_middle : (part : ℕ) → part < whole.parts → part < middle.parts = λ part in_parts. omega (arith, parts) in
    let still : (side : Side) (part : ℕ) → part < whole.parts → stood part a side one ≡ true → stood part b side two ≡ true =
    λ side part in_parts something. sym (ap (λ (o : Option Content). is_some o) (first.content side part in_parts)) ∙ something in
    record {
      lot = first.lot ∙ next.lot;
      content = λ side part in_parts. first.content side part in_parts ∙ next.content side part (in_middle part in_parts);
      state = λ side part in_parts something. first.state side part in_parts something
          ∙ next.state side part (in_middle part in_parts) (still side part in_parts something);
      order = λ side along part second in_parts second_in something second_something.
          first.order side along part second in_parts second_in something second_something
          ∙ next.order side along part second (in_middle part in_parts) (in_middle second second_in)
          (still side part in_parts something) (still along second second_in second_something);
    }

alike_back : (whole shard : Sizes) (one other : Tape) (a b : ℕ) → whole.parts ≡ shard.parts
    → Alike whole shard one other a b → Alike shard whole other one b a
alike_back whole shard one other a b parts alike =
    let in_whole : (part : ℕ) → part < shard.parts → part < whole.parts = λ part in_parts. omega (arith, parts) in
    let still : (side : Side) (part : ℕ) → part < shard.parts → stood part b side other ≡ true → stood part a side one ≡ true =
    λ side part in_parts something. ap (λ (o : Option Content). is_some o) (alike.content side part (in_whole part in_parts)) ∙ something in
    record {
      lot = sym alike.lot;
      content = λ side part in_parts. sym (alike.content side part (in_whole part in_parts));
      state = λ side part in_parts something.
          sym (alike.state side part (in_whole part in_parts) (still side part in_parts something));
      order = λ side along part second in_parts second_in something second_something.
          sym (alike.order side along part second (in_whole part in_parts) (in_whole second second_in)
          (still side part in_parts something) (still along second second_in second_something));
    }

-- before the first change
alike_first : (whole shard : Sizes) (a b : ℕ) → slice_get whole.lots a ≡ slice_get shard.lots b → Alike whole shard [] [] a b
alike_first whole shard a b lot = record {
  lot = by_lot (slice_get whole.lots a) (slice_get shard.lots b) lot;
  content = λ side part in_parts. refl;
  state = λ side part in_parts something. refl;
  order = λ side along part second in_parts second_in something second_something. absurd (false≢true something);
}
  where
    by_lot : (x y : Option ℕ) → x ≡ y → option_map (λ (n : ℕ). n) x ≡ option_map (λ (n : ℕ). n) y
    by_lot x y same = ap (option_map (λ (n : ℕ). n)) same

-- ---- one more change

-- two changes say the same, each about its symbol
record SaysSame (a b : ℕ) (change also : Change) : Type 0 where
  side : (part : ℕ) (side : Side) → said_of part a side change ≡ said_of part b side also
  state : (part : ℕ) → state_said part a change ≡ state_said part b also
  lot : lot_said a change ≡ lot_said b also

-- a change says nothing about a symbol
record SaysNothing (a : ℕ) (change : Change) : Type 0 where
  side : (part : ℕ) (side : Side) → said_of part a side change ≡ None
  state : (part : ℕ) → state_said part a change ≡ None
  lot : lot_said a change ≡ None

-- a receipt before and after a change that is number n + 1, on two tapes: both moved, or neither
data Moved (before now n before' now' n' : ℕ) (stands : Bool) : Type 0 where
  neither : stands ≡ true → now ≡ before → now' ≡ before' → before ≤ n → before' ≤ n' → Moved before now n before' now' n' stands
  both : now ≡ n + 1 → now' ≡ n' + 1 → Moved before now n before' now' n' stands

-- two tests of order that hold together are the same
lt_same : (a b c d : ℕ) → (a < b → c < d) → (b ≤ a → d ≤ c) → nat_lt a b ≡ nat_lt c d
lt_same a b c d below above =
    elim (cases_lt a b) [
      | inl lt ↦ lt-ltb a b lt ∙ sym (lt-ltb c d (below lt))
      | inr le ↦ let past = above le in grind (arith, nat_tests)
    ]

order_stays : (x x' n y y' m z z' w w' : ℕ) (stands along : Bool) → (stands ≡ true → along ≡ true → nat_lt x z ≡ nat_lt y w)
    → Moved x x' n y y' m stands → Moved z z' n w w' m along → nat_lt x' z' ≡ nat_lt y' w'
order_stays x x' n y y' m z z' w w' stands along before (neither st k k' l l') (neither st2 k2 k2' l2 l2') =
    ap₂ nat_lt k k2 ∙ before st st2 ∙ sym (ap₂ nat_lt k' k2')
order_stays x x' n y y' m z z' w w' stands along before (neither st k k' l l') (both o o') =
    lt_same x' z' y' w' (λ _. omega (arith, k', l', o')) (λ past. absurd (omega (arith, past, k, l, o)))
order_stays x x' n y y' m z z' w w' stands along before (both o o') (neither st k k' l l') =
    lt_same x' z' y' w' (λ sooner. absurd (omega (arith, sooner, k, l, o))) (λ _. omega (arith, k', l', o'))
order_stays x x' n y y' m z z' w w' stands along before (both o o') (both p p') =
    lt_same x' z' y' w' (λ sooner. absurd (omega (arith, sooner, o, p))) (λ _. omega (arith, o', p'))

-- the receipt of a side of which both tapes have the same content before and after
abbrev MovedAt : Tape → Tape → Change → Change → ℕ → ℕ → Side → ℕ → Type 0
MovedAt one other change also a b side part =
    Moved (receipt_of part a side one) (receipt_of part a side (one ++ change ∷ [])) (length one) (receipt_of part b side other)
    (receipt_of part b side (other ++ also ∷ [])) (length other) (stood part a side one)

moved : (one other : Tape) (change also : Change) (a b : ℕ) (side : Side) (part : ℕ)
    → content_at part a side one ≡ content_at part b side other
    → content_at part a side (one ++ change ∷ []) ≡ content_at part b side (other ++ also ∷ [])
    → stood part a side (one ++ change ∷ []) ≡ true → MovedAt one other change also a b side part
moved one other change also a b side part before now something =
    let was : Option Content = content_at part a side one in
    let is : Option Content = content_at part a side (one ++ change ∷ []) in
    let test : same_content was is ≡ same_content (content_at part b side other) (content_at part b side (other ++ also ∷ [])) =
    ap₂ same_content before now in
    let first = receipt_of-push part a side one change in
    let second = receipt_of-push part b side other also in
    elim (cases_Bool (same_content was is)) [
      | inl same ↦ neither
          (ap (λ (o : Option Content). is_some o) (same_content-true was is same) ∙ something)
          (first ∙ ap (λ (t : Bool). if t then receipt_of part a side one else length one + 1) same)
          (second ∙ ap (λ (t : Bool). if t then receipt_of part b side other else length other + 1) (sym test ∙ same))
          (receipt_is_least part a side one).within
          (receipt_is_least part b side other).within
      | inr differ ↦ both
          (first ∙ ap (λ (t : Bool). if t then receipt_of part a side one else length one + 1) differ)
          (second ∙ ap (λ (t : Bool). if t then receipt_of part b side other else length other + 1) (sym test ∙ differ))
    ]

-- a change that puts something on a side gives the participant a state
state_stays : (part a : ℕ) (side : Side) (change : Change) (content : Option Content) (state state' : Option QState)
    → (is_some content ≡ true → state ≡ state') → is_some (unwrap_or (said_of part a side change) content) ≡ true
    → option_or (state_said part a change) state ≡ option_or (state_said part a change) state'
state_stays part a side (Quote p s given bid offer) content state state' before something = by_test (p == part && s == a) something
  where
    by_test : (here : Bool) → is_some (unwrap_or (if here then Some (on_side side bid offer) else None) content) ≡ true
        → option_or (if here then Some given else None) state ≡ option_or (if here then Some given else None) state'
    by_test true puts = refl
    by_test false puts = before puts
state_stays part a side (State p s given) content state state' before something =
    ap (option_or (state_said part a (State p s given))) (before something)
state_stays part a side (Withdraw p) content state state' before something = by_test (p == part) something
  where
    by_test : (here : Bool) → is_some (unwrap_or (if here then Some None else None) content) ≡ true → state ≡ state'
    by_test true puts = absurd (false≢true puts)
    by_test false puts = before puts
state_stays part a side (Lot s lot) content state state' before something = before something

-- both tapes go on with changes that say the same
alike_more : (whole shard : Sizes) (one other : Tape) (a b : ℕ) (change also : Change) → SaysSame a b change also
    → Alike whole shard one other a b → Alike whole shard (one ++ change ∷ []) (other ++ also ∷ []) a b
alike_more whole shard one other a b change also same alike =
    let content : (side : Side) (part : ℕ) → part < whole.parts
    → content_at part a side (one ++ change ∷ []) ≡ content_at part b side (other ++ also ∷ []) =
    λ side part in_parts.
    content_at-push part a side one change
    ∙ ap₂ (λ (said : Option (Option Content)) (o : Option Content). unwrap_or said o) (same.side part side)
    (alike.content side part in_parts)
    ∙ sym (content_at-push part b side other also) in
    let moves : (side : Side) (part : ℕ) → part < whole.parts → stood part a side (one ++ change ∷ []) ≡ true
    → MovedAt one other change also a b side part =
    λ side part in_parts something.
    moved one other change also a b side part (alike.content side part in_parts) (content side part in_parts) something in
    record {
      lot = lot_listed-push whole a one change
          ∙ ap₂ (λ (said : Option ℕ) (lot : Option ℕ). option_map (unwrap_or said) lot) same.lot alike.lot
          ∙ sym (lot_listed-push shard b other also);
      content = content;
      state = λ side part in_parts something.
          state_at-push part a one change
          ∙ state_stays part a side change (content_at part a side one) (state_at part a one) (state_at part b other)
          (alike.state side part in_parts)
          (sym (ap (λ (o : Option Content). is_some o) (content_at-push part a side one change)) ∙ something)
          ∙ ap (λ (said : Option QState). option_or said (state_at part b other)) (same.state part)
          ∙ sym (state_at-push part b other also);
      order = λ side along part second in_parts second_in something second_something.
          order_stays (receipt_of part a side one) (receipt_of part a side (one ++ change ∷ [])) (length one)
          (receipt_of part b side other) (receipt_of part b side (other ++ also ∷ [])) (length other)
          (receipt_of second a along one) (receipt_of second a along (one ++ change ∷ []))
          (receipt_of second b along other) (receipt_of second b along (other ++ also ∷ []))
          (stood part a side one) (stood second a along one)
          (alike.order side along part second in_parts second_in)
          (moves side part in_parts something) (moves along second second_in second_something);
    }

-- a tape goes on with a change that says nothing about the symbol
record IsKept (a : ℕ) (tape : Tape) (change : Change) (side : Side) (part : ℕ) : Type 0 where
  content : content_at part a side (tape ++ change ∷ []) ≡ content_at part a side tape
  receipt : receipt_of part a side (tape ++ change ∷ []) ≡ receipt_of part a side tape

kept : (a : ℕ) (tape : Tape) (change : Change) (side : Side) (part : ℕ) → SaysNothing a change → IsKept a tape change side part
kept a tape change side part nothing =
    let content : content_at part a side (tape ++ change ∷ []) ≡ content_at part a side tape =
    content_at-push part a side tape change
    ∙ ap (λ (said : Option (Option Content)). unwrap_or said (content_at part a side tape)) (nothing.side part side) in
    let same : same_content (content_at part a side tape) (content_at part a side (tape ++ change ∷ [])) ≡ true =
    ap (same_content (content_at part a side tape)) content ∙ same_content-refl (content_at part a side tape) in
    record {
      content = content;
      receipt = receipt_of-push part a side tape change
          ∙ ap (λ (t : Bool). if t then receipt_of part a side tape else length tape + 1) same;
    }

alike_aside : (whole shard : Sizes) (one other : Tape) (a b : ℕ) (change : Change) → SaysNothing a change
    → Alike whole shard one other a b → Alike whole shard (one ++ change ∷ []) other a b
alike_aside whole shard one other a b change nothing alike =
    let at : (side : Side) (part : ℕ) → IsKept a one change side part = λ side part. kept a one change side part nothing in
    let before : (side : Side) (part : ℕ) → stood part a side (one ++ change ∷ []) ≡ true → stood part a side one ≡ true =
    λ side part something. sym (ap (λ (o : Option Content). is_some o) (at side part).content) ∙ something in
    record {
      lot = lot_listed-push whole a one change
          ∙ ap (λ (said : Option ℕ). option_map (unwrap_or said) (lot_listed whole one a)) nothing.lot
          ∙ as_was (lot_listed whole one a) ∙ alike.lot;
      content = λ side part in_parts. (at side part).content ∙ alike.content side part in_parts;
      state = λ side part in_parts something.
          state_at-push part a one change
          ∙ ap (λ (said : Option QState). option_or said (state_at part a one)) (nothing.state part)
          ∙ alike.state side part in_parts (before side part something);
      order = λ side along part second in_parts second_in something second_something.
          ap₂ nat_lt (at side part).receipt (at along second).receipt
          ∙ alike.order side along part second in_parts second_in (before side part something) (before along second second_something);
    }
  where
    as_was : (lot : Option ℕ) → option_map (λ (n : ℕ). n) lot ≡ lot
    as_was None = refl
    as_was (Some lot) = refl

-- ---- what a change says about a symbol under place 0

chosen : {X : Type 0} (here : Bool) (x y : X) → (if here then Some x else None) ≡ Some y → (here ≡ true) × (x ≡ y)
chosen true x y is = (refl, cc)
chosen false x y is = absurd (cc)

not_chosen : {X : Type 0} (here : Bool) (x : X) → (if here then Some x else None) ≡ None → here ≡ false
not_chosen true x is = absurd (cc)
not_chosen false x is = refl

and_here : (first here : Bool) → here ≡ true → (first && here) ≡ (first && true)
and_here first here is = ap (λ (b : Bool). first && b) is

and_not : (first here : Bool) → here ≡ false → (first && here) ≡ false
and_not true here is = is
and_not false here is = refl

said_same : (a : ℕ) (change own : Change) → said_of_symbol a change ≡ Some own → SaysSame a 0 change own
said_same a (Quote p s state bid offer) own is =
    let got = chosen (s == a) (Quote p 0 state bid offer) own is in
    subst (λ (c : Change). SaysSame a 0 (Quote p s state bid offer) c) got.1 (record {
      side = λ part side.
          ap (λ (b : Bool). if b then Some (on_side side bid offer) else None) (and_here (p == part) (s == a) got.0);
      state = λ part. ap (λ (b : Bool). if b then Some state else None) (and_here (p == part) (s == a) got.0);
      lot = refl;
    })
said_same a (State p s state) own is =
    let got = chosen (s == a) (State p 0 state) own is in
    subst (λ (c : Change). SaysSame a 0 (State p s state) c) got.1 (record {
      side = λ part side. refl;
      state = λ part. ap (λ (b : Bool). if b then Some state else None) (and_here (p == part) (s == a) got.0);
      lot = refl;
    })
said_same a (Withdraw p) own is =
    let got : Withdraw p ≡ own = cc in
    subst (λ (c : Change). SaysSame a 0 (Withdraw p) c) got (record {
      side = λ part side. refl;
      state = λ part. refl;
      lot = refl;
    })
said_same a (Lot s lot) own is =
    let got = chosen (s == a) (Lot 0 lot) own is in
    subst (λ (c : Change). SaysSame a 0 (Lot s lot) c) got.1 (record {
      side = λ part side. refl;
      state = λ part. refl;
      lot = ap (λ (b : Bool). if b then Some lot else None) got.0;
    })

said_nothing : (a : ℕ) (change : Change) → said_of_symbol a change ≡ None → SaysNothing a change
said_nothing a (Quote p s state bid offer) is =
    let not = not_chosen (s == a) (Quote p 0 state bid offer) is in
    record {
      side = λ part side.
          ap (λ (b : Bool). if b then Some (on_side side bid offer) else None) (and_not (p == part) (s == a) not);
      state = λ part. ap (λ (b : Bool). if b then Some state else None) (and_not (p == part) (s == a) not);
      lot = refl;
    }
said_nothing a (State p s state) is =
    let not = not_chosen (s == a) (State p 0 state) is in
    record {
      side = λ part side. refl;
      state = λ part. ap (λ (b : Bool). if b then Some state else None) (and_not (p == part) (s == a) not);
      lot = refl;
    }
said_nothing a (Withdraw p) is = absurd (cc)
said_nothing a (Lot s lot) is =
    let not = not_chosen (s == a) (Lot 0 lot) is in
    record {
      side = λ part side. refl;
      state = λ part. refl;
      lot = ap (λ (b : Bool). if b then Some lot else None) not;
    }

-- ---- complete tapes

-- one change, whatever it says about the symbol, and then the rest
said_by : (whole shard : Sizes) (done short : Tape) (change : Change) (rest : Tape) (a : ℕ)
    → ((d s : Tape) → Alike whole shard d s a 0 → Alike whole shard (d ++ rest) (s ++ of_symbol a rest) a 0)
    → Alike whole shard done short a 0 → (said : Option Change) → said_of_symbol a change ≡ said
    → Alike whole shard (done ++ change ∷ rest) (short ++ cons_option said (of_symbol a rest)) a 0
said_by whole shard done short change rest a further alike None is =
    subst (λ (t : Tape). Alike whole shard t (short ++ of_symbol a rest) a 0) (append_assoc done (change ∷ []) rest)
    (further (done ++ change ∷ []) short (alike_aside whole shard done short a 0 change (said_nothing a change is) alike))
said_by whole shard done short change rest a further alike (Some own) is =
    subst (λ (t : Tape). Alike whole shard t (short ++ own ∷ of_symbol a rest) a 0) (append_assoc done (change ∷ []) rest)
    (subst (λ (t : Tape). Alike whole shard ((done ++ change ∷ []) ++ rest) t a 0) (append_assoc short (own ∷ []) (of_symbol a rest))
    (further (done ++ change ∷ []) (short ++ own ∷ [])
    (alike_more whole shard done short a 0 change own (said_same a change own is) alike)))

-- a tape is alike to what it says about the symbol, from any point at which the two are alike
alike_said : (whole shard : Sizes) (done short : Tape) (rest : Tape) (a : ℕ) → Alike whole shard done short a 0
    → Alike whole shard (done ++ rest) (short ++ of_symbol a rest) a 0
alike_said whole shard done short [] a alike =
    subst (λ (t : Tape). Alike whole shard t (short ++ []) a 0) (sym (append-nil done))
    (subst (λ (t : Tape). Alike whole shard done t a 0) (sym (append-nil short)) alike)
alike_said whole shard done short (change ∷ rest) a alike =
    said_by whole shard done short change rest a (λ d s so_far. alike_said whole shard d s rest a so_far) alike
    (said_of_symbol a change) refl

-- the sizes of a roster with only that symbol, if it is listed
abbrev alone : Sizes → ℕ → Sizes
alone whole a = record { parts = whole.parts; lots = cons_option (slice_get whole.lots a) [] }

alone_lot : (whole : Sizes) (a : ℕ) → slice_get whole.lots a ≡ slice_get (alone whole a).lots 0
alone_lot whole a = by_lot (slice_get whole.lots a)
  where
    by_lot : (lot : Option ℕ) → lot ≡ slice_get (cons_option lot []) 0
    by_lot None = refl
    by_lot (Some lot) = refl

-- tapes that say the same are alike
alike_tapes : (whole shard : Sizes) (day part : Tape) (a b : ℕ) → IsOfShard whole shard a b → of_symbol a day ≡ of_symbol b part
    → Alike whole shard day part a b
alike_tapes whole shard day part a b of same =
    let middle : Sizes = alone whole a in
    let first : Alike whole middle day (of_symbol a day) a 0 =
    alike_said whole middle [] [] day a (alike_first whole middle a 0 (alone_lot whole a)) in
    let second : Alike shard middle part (of_symbol b part) b 0 =
    alike_said shard middle [] [] part b (alike_first shard middle b 0 (sym of.lot ∙ alone_lot whole a)) in
    alike_both whole middle shard day (of_symbol a day) part a 0 b refl first
    (subst (λ (t : Tape). Alike middle shard t part 0 b) (sym same)
    (alike_back shard middle part (of_symbol b part) b 0 (sym of.parts) second))

-- ---- what is shown

slice_get-map-range : {X : Type 0} (f : ℕ → X) (low n i : ℕ) → i < n → slice_get (map f (range_with_len low n)) i ≡ Some (f (low + i))
slice_get-map-range f low zero i within = absurd (omega arith)
slice_get-map-range f low (suc n) zero within =
    let same : low ≡ low + 0 = omega arith in ap (λ (k : ℕ). Some (f k)) same
slice_get-map-range f low (suc n) (suc i) within =
    let same : low + 1 + i ≡ low + suc i = omega arith in
    slice_get-map-range f (low + 1) n i (omega arith) ∙ ap (λ (k : ℕ). Some (f k)) same

filter_map_same : {Y : Type 0} (f g : ℕ → Option Y) (low n : ℕ) → ((k : ℕ) → low ≤ k → k < low + n → f k ≡ g k)
    → filter_map f (range_with_len low n) ≡ filter_map g (range_with_len low n)
filter_map_same f g low zero same = refl
filter_map_same f g low (suc n) same =
    rw (same low (omega arith) (omega arith), filter_map_same f g (low + 1) n (λ k from below. same k (omega arith) (omega arith))) refl

-- a board with only that symbol, which holds what the tape says
abbrev board_at : Sizes → Tape → ℕ → Board
board_at sizes tape a = record {
  sizes = record { parts = sizes.parts; lots = lot_at sizes tape a ∷ [] };
  lots = lot_at sizes tape a ∷ [];
  cells = map (λ part. cell_of part a tape) (range_with_len 0 sizes.parts);
  applied = 0;
}

cell_there : (sizes : Sizes) (tape : Tape) (a part : ℕ) → part < sizes.parts
    → slice_get (board_at sizes tape a).cells (place_of part 0) ≡ Some (cell_of part a tape)
cell_there sizes tape a part in_parts =
    let place : place_of part 0 ≡ part = omega arith in
    let from : 0 + part ≡ part = omega arith in
    ap (slice_get (board_at sizes tape a).cells) place
    ∙ slice_get-map-range (λ part. cell_of part a tape) 0 sizes.parts part in_parts
    ∙ ap (λ (k : ℕ). Some (cell_of k a tape)) from

cell_is : (sizes : Sizes) (tape : Tape) (a part : ℕ) → part < sizes.parts → cell_at (board_at sizes tape a) 0 part ≡ cell_of part a tape
cell_is sizes tape a part in_parts = ap (λ (cell : Option Cell). unwrap_or cell empty_cell) (cell_there sizes tape a part in_parts)

held_is : (sizes : Sizes) (tape : Tape) (a part : ℕ) (side : Side) → part < sizes.parts
    → held_at (board_at sizes tape a) 0 side part ≡ held_of part a side tape
held_is sizes tape a part Bid in_parts = ap (λ (cell : Cell). cell.bid) (cell_is sizes tape a part in_parts)
held_is sizes tape a part Offer in_parts = ap (λ (cell : Cell). cell.offer) (cell_is sizes tape a part in_parts)

row_of : (lot part a : ℕ) (side : Side) (tape : Tape)
    → row_of_cell lot part side (cell_of part a tape)
    ≡ quotation lot part (state_at part a tape) (receipt_of part a side tape) (content_at part a side tape)
row_of lot part a Bid tape = refl
row_of lot part a Offer tape = refl

row_there : (sizes : Sizes) (tape : Tape) (a part : ℕ) (side : Side) → part < sizes.parts
    → row_held (board_at sizes tape a) 0 side part ≡ quotation_of sizes tape a side part
row_there sizes tape a part side in_parts =
    ap (λ (cell : Option Cell). row_by side cell) (cell_there sizes tape a part in_parts) ∙ row_of (lot_at sizes tape a) part a side tape
  where
    row_by : Side → Option Cell → Option Row
    row_by side None = None
    row_by side (Some cell) = row_of_cell (lot_at sizes tape a) part side cell

-- it shows what the tape says
rows_there : (sizes : Sizes) (tape : Tape) (a : ℕ) (side : Side) → rows_held (board_at sizes tape a) 0 side ≡ quotations sizes tape a side
rows_there sizes tape a side =
    filter_map_same (row_held (board_at sizes tape a) 0 side) (quotation_of sizes tape a side) 0 sizes.parts
    (λ part low high. row_there sizes tape a part side (omega arith))

alike_boards : (whole shard : Sizes) (one other : Tape) (a b : ℕ) → whole.parts ≡ shard.parts → Alike whole shard one other a b
    → ShowAlike (board_at whole one a) (board_at shard other b) 0
alike_boards whole shard one other a b parts alike =
    let lot : lot_at whole one a ≡ lot_at shard other b = ap (λ (l : Option ℕ). unwrap_or l 0) alike.lot in
    let in_shard : (part : ℕ) → part < whole.parts → part < shard.parts = λ part in_parts. omega (arith, parts) in
    let first : (side : Side) (part : ℕ) → part < whole.parts
    → held_at (board_at whole one a) 0 side part ≡ held_of part a side one = λ side part in_parts. held_is whole one a part side in_parts in
    let next : (side : Side) (part : ℕ) → part < whole.parts
    → held_at (board_at shard other b) 0 side part ≡ held_of part b side other =
    λ side part in_parts. held_is shard other b part side (in_shard part in_parts) in
    let something : (side : Side) (part : ℕ) → part < whole.parts → stands (board_at whole one a) 0 side part ≡ true
    → stood part a side one ≡ true =
    λ side part in_parts some. sym (ap (λ (h : Holding). is_some h.quote) (first side part in_parts)) ∙ some in
    record {
      roster = ap₂ (λ (p l : ℕ). let sizes : Sizes = record { parts = p; lots = l ∷ [] } in sizes) parts lot;
      lot = ap Some lot;
      contents = λ side part in_parts.
          ap (λ (h : Holding). h.quote) (first side part in_parts) ∙ alike.content side part in_parts
          ∙ sym (ap (λ (h : Holding). h.quote) (next side part in_parts));
      states = λ side part in_parts some.
          ap (λ (cell : Cell). cell.state) (cell_is whole one a part in_parts)
          ∙ alike.state side part in_parts (something side part in_parts some)
          ∙ sym (ap (λ (cell : Cell). cell.state) (cell_is shard other b part (in_shard part in_parts)));
      order = λ side along part second in_parts second_in some second_some.
          ap₂ (λ (h k : Holding). nat_lt h.receipt k.receipt) (first side part in_parts) (first along second second_in)
          ∙ alike.order side along part second in_parts second_in (something side part in_parts some)
          (something along second second_in second_some)
          ∙ sym (ap₂ (λ (h k : Holding). nat_lt h.receipt k.receipt) (next side part in_parts) (next along second second_in));
    }

-- the law of boards that show alike
abbrev ShowLaw : Type 0
ShowLaw = (one other : Board) (sym : ℕ) → ShowAlike one other sym → ShowSame one other sym

alike_shows : ShowLaw → (whole shard : Sizes) (one other : Tape) (a b : ℕ) → whole.parts ≡ shard.parts → Alike whole shard one other a b
    → (side : Side) → shows whole one a side ≡ shows shard other b side
alike_shows show_same whole shard one other a b parts alike side =
    sym (ap (λ (rows : List Row). map unnumbered (ranked side rows)) (rows_there whole one a side))
    ∙ show_same (board_at whole one a) (board_at shard other b) 0 (alike_boards whole shard one other a b parts alike) side
    ∙ ap (λ (rows : List Row). map unnumbered (ranked side rows)) (rows_there shard other b side)

pub shard_shows : ShowLaw → (whole shard : Sizes) (day part : Tape) (a b : ℕ) → IsOfShard whole shard a b
    → of_symbol a day ≡ of_symbol b part
    → (side : Side) → shows whole day a side ≡ shows shard part b side
shard_shows show_same whole shard day part a b of same side =
    alike_shows show_same whole shard day part a b of.parts (alike_tapes whole shard day part a b of same) side

-- a board shows what its tape says
board_shows : (board : Board) (tape : Tape) (a : ℕ) (side : Side) → StandsFor board tape
    → rows_held board a side ≡ quotations board.sizes tape a side
board_shows board tape a Bid stands = ap (λ (seen : Seen). seen.bids) (seen_stands board tape a stands)
board_shows board tape a Offer stands = ap (λ (seen : Seen). seen.offers) (seen_stands board tape a stands)

pub shard_boards : ShowLaw → (whole shard : Board) (day part : Tape) (a b : ℕ) → StandsFor whole day → StandsFor shard part
    → IsOfShard whole.sizes shard.sizes a b → of_symbol a day ≡ of_symbol b part
    → (side : Side) → shown_in_order whole a side ≡ shown_in_order shard b side
shard_boards show_same whole shard day part a b whole_stands shard_stands of same side =
    ap (λ (rows : List Row). map unnumbered (ranked side rows)) (board_shows whole day a side whole_stands)
    ∙ shard_shows show_same whole.sizes shard.sizes day part a b of same side
    ∙ sym (ap (λ (rows : List Row). map unnumbered (ranked side rows)) (board_shows shard part b side shard_stands))

-- ---- a cut

-- a board's cells, read at a symbol
record IsRead (board : Board) (tape : Tape) (a who : ℕ) : Type 0 where
  held : (side : Side) → held_at board a side who ≡ held_of who a side tape
  state : (cell_at board a who).state ≡ state_at who a tape

read_at : (board : Board) (tape : Tape) (a who : ℕ) → StandsFor board tape → who < board.sizes.parts → a < length board.sizes.lots
    → IsRead board tape a who
read_at board tape a who stands in_parts in_syms =
    let same : cell_at board a who ≡ cell_of who a tape =
    ap (λ (cell : Option Cell). unwrap_or cell empty_cell) (stands.cells who a in_parts in_syms) in
    record {
      held = λ side. by_side side same;
      state = ap (λ (cell : Cell). cell.state) same;
    }
  where
    by_side : (side : Side) → cell_at board a who ≡ cell_of who a tape → held_at board a side who ≡ held_of who a side tape
    by_side Bid same = ap (λ (cell : Cell). cell.bid) same
    by_side Offer same = ap (λ (cell : Cell). cell.offer) same

-- boards that show alike hold what alike tapes say
alike_of_boards : (one other : Board) (day part : Tape) (a : ℕ) → StandsFor one day → StandsFor other part → a < length one.sizes.lots
    → ShowAlike one other a → Alike one.sizes other.sizes day part a a
alike_of_boards one other day part a one_stands other_stands in_syms alike =
    let other_in : a < length other.sizes.lots = subst (λ (sizes : Sizes). a < length sizes.lots) alike.roster in_syms in
    let in_other : (part : ℕ) → part < one.sizes.parts → part < other.sizes.parts =
    λ part in_parts. subst (λ (sizes : Sizes). part < sizes.parts) alike.roster in_parts in
    let first : (side : Side) (who : ℕ) → who < one.sizes.parts → held_at one a side who ≡ held_of who a side day =
    λ side who in_parts. (read_at one day a who one_stands in_parts in_syms).held side in
    let next : (side : Side) (who : ℕ) → who < one.sizes.parts → held_at other a side who ≡ held_of who a side part =
    λ side who in_parts. (read_at other part a who other_stands (in_other who in_parts) other_in).held side in
    let something : (side : Side) (who : ℕ) → who < one.sizes.parts → stood who a side day ≡ true → stands one a side who ≡ true =
    λ side who in_parts some. ap (λ (h : Holding). is_some h.quote) (first side who in_parts) ∙ some in
    record {
      lot = sym (one_stands.lots a) ∙ alike.lot ∙ other_stands.lots a;
      content = λ side who in_parts.
          sym (ap (λ (h : Holding). h.quote) (first side who in_parts)) ∙ alike.contents side who in_parts
          ∙ ap (λ (h : Holding). h.quote) (next side who in_parts);
      state = λ side who in_parts some.
          sym (read_at one day a who one_stands in_parts in_syms).state
          ∙ alike.states side who in_parts (something side who in_parts some)
          ∙ (read_at other part a who other_stands (in_other who in_parts) other_in).state;
      order = λ side along who second in_parts second_in some second_some.
          sym (ap₂ (λ (h k : Holding). nat_lt h.receipt k.receipt) (first side who in_parts) (first along second second_in))
          ∙ alike.order side along who second in_parts second_in (something side who in_parts some)
          (something along second second_in second_some)
          ∙ ap₂ (λ (h k : Holding). nat_lt h.receipt k.receipt) (next side who in_parts) (next along second second_in);
    }

-- a board after some more changes
stands_fold : (board : Board) (tape changes : Tape) → StandsFor board tape → All (λ change. holds board.sizes change ≡ true) changes
    → board.applied + length changes ≤ 10000000 → StandsFor (fold after board changes) (tape ++ changes)
stands_fold board tape [] stands held room = subst (StandsFor board) (sym (append-nil tape)) stands
stands_fold board tape (change ∷ changes) stands held room =
    let taken = and_from (holds board.sizes change) (nat_lt board.applied 10000000)
    (All-head (λ change. holds board.sizes change ≡ true) change changes held) (below (omega arith)) in
    subst (StandsFor (fold after (after board change) changes)) (append_assoc tape (change ∷ []) changes)
    (stands_fold (after board change) (tape ++ change ∷ []) changes (stands_after board tape change stands taken)
    (All-tail (λ change. holds board.sizes change ≡ true) change changes held) (omega arith))
  where
    below : board.applied < 10000000 → nat_lt board.applied 10000000 ≡ true
    below within = lt-ltb board.applied 10000000 within

-- a new board has taken no changes, and has nothing of a symbol
stands_first : (sizes : Sizes) → sizes.parts ≤ 32 → StandsFor (opening sizes) []
unfolding before_equal_end
stands_first sizes narrow = record {
  applied = refl;
  narrow = narrow;
  lots = λ a. as_opened (slice_get sizes.lots a) a;
  cells = λ part a in_parts in_syms. slice_get-replicate_below (32 * length sizes.lots) (place_of part a) empty_cell (omega arith);
}
  where
    as_opened : (lot : Option ℕ) (a : ℕ) → lot ≡ option_map (lot_since a []) lot
    as_opened None a = refl
    as_opened (Some lot) a = refl

nothing_first : (sizes : Sizes) (a : ℕ) → sizes.parts ≤ 32 → a < length sizes.lots → HasNothing (opening sizes) sizes a
nothing_first sizes a narrow in_syms = record {
  roster = refl;
  lot = refl;
  cells = λ part in_parts. slice_get-replicate_below (32 * length sizes.lots) (place_of part a) empty_cell (omega arith);
}

-- tapes that are alike go on alike with the same changes
alike_later : (whole shard : Sizes) (one other later : Tape) → Alike whole shard one other 0 0
    → Alike whole shard (one ++ later) (other ++ later) 0 0
alike_later whole shard one other [] alike =
    subst (λ (t : Tape). Alike whole shard t (other ++ []) 0 0) (sym (append-nil one))
    (subst (λ (t : Tape). Alike whole shard one t 0 0) (sym (append-nil other)) alike)
alike_later whole shard one other (change ∷ later) alike =
    subst (λ (t : Tape). Alike whole shard t (other ++ change ∷ later) 0 0) (append_assoc one (change ∷ []) later)
    (subst (λ (t : Tape). Alike whole shard ((one ++ change ∷ []) ++ later) t 0 0) (append_assoc other (change ∷ []) later)
    (alike_later whole shard (one ++ change ∷ []) (other ++ change ∷ []) later
    (alike_more whole shard one other 0 0 change change (record { side = λ part side. refl; state = λ part. refl; lot = refl }) alike)))

-- the opening changes and what the symbol's tape says before the cut are alike
alike_opening : (board : Board) (said opened : Tape) → StandsFor board said → 0 < length board.sizes.lots → OpensSymbol board 0 opened
    → Alike board.sizes board.sizes said opened 0 0
alike_opening board said opened stands in_syms opens =
    let start : Board = fold after (opening board.sizes) opened in
    let alike : ShowAlike board start 0 =
    opens.alike (opening board.sizes) (nothing_first board.sizes 0 stands.narrow in_syms) in
    let start_stands : StandsFor start opened =
    stands_fold (opening board.sizes) [] opened (stands_first board.sizes stands.narrow) opens.held
    (omega (arith, opens.few)) in
    subst (λ (sizes : Sizes). Alike board.sizes sizes said opened 0 0) (sym alike.roster)
    (alike_of_boards board start said opened 0 stands start_stands in_syms alike)

pub cut_shows : ShowLaw → (whole shard : Sizes) (before later opened after_it : Tape) (a b : ℕ) → IsCut whole shard before opened a b
    → of_symbol a later ≡ of_symbol b after_it
    → (side : Side) → shows whole (before ++ later) a side ≡ shows shard (opened ++ after_it) b side
cut_shows show_same whole shard before later opened after_it a b cut same side =
    let middle : Sizes = cut.board.sizes in
    let lot : slice_get whole.lots a ≡ slice_get middle.lots 0 =
    cut.holds.listed ∙ sym (ap (λ (sizes : Sizes). slice_get sizes.lots 0) cut.holds.roster) in
    let parts : whole.parts ≡ middle.parts = sym (ap (λ (sizes : Sizes). sizes.parts) cut.holds.roster) in
    let one_symbol : 0 < length middle.lots =
    subst (λ (sizes : Sizes). 0 < length sizes.lots) (sym cut.holds.roster) (omega arith) in
    let said : of_symbol a (before ++ later) ≡ of_symbol a before ++ of_symbol a later =
    filter_map-append (said_of_symbol a) before later in
    let said_here : of_symbol b (opened ++ after_it) ≡ of_symbol b opened ++ of_symbol a later =
    filter_map-append (said_of_symbol b) opened after_it ∙ ap (λ (t : Tape). of_symbol b opened ++ t) (sym same) in
    let first : Alike whole middle (before ++ later) (of_symbol a (before ++ later)) a 0 =
    alike_said whole middle [] [] (before ++ later) a (alike_first whole middle a 0 lot) in
    let last : Alike shard middle (opened ++ after_it) (of_symbol b (opened ++ after_it)) b 0 =
    alike_said shard middle [] [] (opened ++ after_it) b (alike_first shard middle b 0 (sym cut.of.lot ∙ lot)) in
    let between : Alike middle middle (of_symbol a before ++ of_symbol a later) (of_symbol b opened ++ of_symbol a later) 0 0 =
    alike_later middle middle (of_symbol a before) (of_symbol b opened) (of_symbol a later)
    (alike_opening cut.board (of_symbol a before) (of_symbol b opened) cut.holds.stands one_symbol cut.opens) in
    let shard_parts : shard.parts ≡ middle.parts = sym cut.of.parts ∙ parts in
    let to_middle : Alike whole middle (before ++ later) (of_symbol b opened ++ of_symbol a later) a 0 =
    alike_both whole middle middle (before ++ later) (of_symbol a before ++ of_symbol a later) (of_symbol b opened ++ of_symbol a later)
    a 0 0 parts (subst (λ (t : Tape). Alike whole middle (before ++ later) t a 0) said first) between in
    let from_middle : Alike middle shard (of_symbol b opened ++ of_symbol a later) (opened ++ after_it) 0 b =
    subst (λ (t : Tape). Alike middle shard t (opened ++ after_it) 0 b) said_here
    (alike_back shard middle (opened ++ after_it) (of_symbol b (opened ++ after_it)) b 0 shard_parts last) in
    alike_shows show_same whole shard (before ++ later) (opened ++ after_it) a b cut.of.parts
    (alike_both whole middle shard (before ++ later) (of_symbol b opened ++ of_symbol a later) (opened ++ after_it) a 0 b parts
    to_middle from_middle)
    side
