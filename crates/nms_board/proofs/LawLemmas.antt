-- The laws of the definitions.
use Rattle.std.proofs.Common.{◌≡◌, ◌≢◌, ℕ, zero, suc, ◌+◌, ◌<◌, ◌≤◌, ◌&&◌, ◌==◌, ◌⊎◌, Bool, true, false, All, AllPairs, [], ◌∷◌, ◌++◌}
use Rattle.std.proofs.Common.{append_assoc, append-nil, length, Option, Some, None, unwrap_or, if◌then◌else◌, refl, sym, ap, subst, ◌∙◌}
use Rattle.std.proofs.Common.{inl, inr, arith, eqb, eq-eqb, ne_eqb}
use Rattle.std.specs.List.{filter_map, range_with_len, cons_option}
use Rattle.std.proofs.lemmas.List.{length-append, take_all, take-append-le}
use Rattle.std.proofs.lemmas.List.Elements.{All-nil, All-cons, All-head, All-tail}
use Rattle.std.proofs.lemmas.List.Kept.{AllPairs-cons}
use Rattle.std.proofs.lemmas.Option.{none-some, same_Some, slice_get-get_or}
use Rattle.std.proofs.lemmas.Bool.{and_from, and_left, cases_Bool, cases_eq, cases_lt, both_ways}
use Rattle.nms_quote.specs.Content.{Content}
use Rattle.nms_quote.specs.Roster.{Sizes}
use Rattle.nms_quote.specs.Tape.{Tape, participant_of, version}
use Rattle.nms_quote.specs.declared.side_quote.Side.{Side}
use Rattle.nms_quote.specs.declared.side_quote.QState.{QState}
use Rattle.nms_quote.specs.declared.side_quote.QState.TheVariants.{Automated, Halted}
use Rattle.nms_quote.specs.declared.change.Change.{Change}
use Rattle.nms_quote.specs.declared.change.Change.TheVariants.{Lot, Quote, State, Withdraw}
use Rattle.nms_board.specs.History.{before_equal_end, on_side, said_of, content_at, lot_at, lot_said, state_at, receipt_of, same_content}
use Rattle.nms_board.specs.History.{lot_listed}
use Rattle.nms_board.specs.Quotation.{is_automated, is_halted, quotation, quotation_of, quotations}
use Rattle.nms_units.specs.Lot.{displayed_size}
use Rattle.nms_board.specs.Laws.{IsReceipt, KeepsReceipts, KeepsSide, HidesAndKeeps}
use Rattle.nms_board.specs.declared.row.Row.{Row}
use Rattle.nms_board.proofs.HistoryLemmas.{content_at-push, lot_listed-push, lot_listed_unsaid, receipt_of-push, state_at-push}
use Rattle.nms_board.proofs.HistoryLemmas.{same_content-refl, same_content-true}
use Rattle.nms_board.proofs.ListLemmas.{filter_map_same}

-- what holds of the empty tape and of each tape with one more change holds of each
by_last_change : (P : Tape → Type 0) → P [] → ((tape : Tape) (change : Change) → P tape → P (tape ++ change ∷ [])) → (tape : Tape) → P tape
by_last_change P base step tape = from [] tape base
  where
    from : (front back : Tape) → P front → P (front ++ back)
    from front [] p = subst P (sym (append-nil front)) p
    from front (change ∷ back) p = subst P (append_assoc front (change ∷ []) back) (from (front ++ change ∷ []) back (step front change p))

-- versions up to the old end are the old ones
version-push : (k : ℕ) (tape : Tape) (change : Change) → k ≤ length tape → version k (tape ++ change ∷ []) ≡ version k tape
version-push k tape change le = take-append-le k tape (change ∷ []) le

-- a version of the longer tape is one of the old or the complete one
earlier_or_all : (k : ℕ) (tape : Tape) (change : Change) → (k ≤ length tape) ⊎ (version k (tape ++ change ∷ []) ≡ tape ++ change ∷ [])
earlier_or_all k tape change =
    elim (cases_lt (length tape) k) [
      | inl past ↦ inr (take_all k (tape ++ change ∷ []) (omega (arith, length-append tape (change ∷ []))))
      | inr le ↦ inl le
    ]

-- if the content stays, so does the receipt
pub receipt_stays : (part sym : ℕ) (side : Side) (tape : Tape) (change : Change)
    → content_at part sym side (tape ++ change ∷ []) ≡ content_at part sym side tape → KeepsSide part sym side tape change
receipt_stays part symbol side tape change content = record {
  content = content;
  receipt = receipt_of-push part symbol side tape change ∙ rw (content, same_content-refl (content_at part symbol side tape)) refl;
}

-- the receipt after a change that leaves the content
receipt_kept : (part sym : ℕ) (side : Side) (tape : Tape) (change : Change) → KeepsSide part sym side tape change
    → IsReceipt part sym side tape (receipt_of part sym side tape)
    → IsReceipt part sym side (tape ++ change ∷ []) (receipt_of part sym side (tape ++ change ∷ []))
receipt_kept part symbol side tape change keeps old =
    let content = content_at part symbol side in
    rw keeps.receipt (record {
      within = omega (arith, old.within, length-append tape (change ∷ []));
      stays = λ k low high. elim (earlier_or_all k tape change) [
        | inl le ↦ ap content (version-push k tape change le) ∙ old.stays k low le ∙ sym keeps.content
        | inr all ↦ ap content all
      ];
      least = λ m stays. elim (cases_lt (length tape) m) [
        | inl past ↦ omega (arith, old.within)
        | inr le ↦ old.least m (λ k low high. ap content (sym (version-push k tape change high))
            ∙ stays k low (omega (arith, length-append tape (change ∷ []))) ∙ keeps.content)
      ];
    })

-- the receipt of a change that alters the content
altered : (part sym : ℕ) (side : Side) (tape : Tape) (change : Change)
    → same_content (content_at part sym side tape) (content_at part sym side (tape ++ change ∷ [])) ≡ false
    → receipt_of part sym side (tape ++ change ∷ []) ≡ length tape + 1
altered part symbol side tape change differ = receipt_of-push part symbol side tape change ∙ rw differ refl

receipt_new : (part sym : ℕ) (side : Side) (tape : Tape) (change : Change)
    → same_content (content_at part sym side tape) (content_at part sym side (tape ++ change ∷ [])) ≡ false
    → IsReceipt part sym side (tape ++ change ∷ []) (receipt_of part sym side (tape ++ change ∷ []))
receipt_new part symbol side tape change differ =
    let content = content_at part symbol side in
    rw (altered part symbol side tape change differ) (record {
      within = omega (arith, length-append tape (change ∷ []));
      stays = λ k low high. elim (earlier_or_all k tape change) [
        | inl le ↦ absurd (omega arith)
        | inr all ↦ ap content all
      ];
      least = λ m stays. elim (cases_lt (length tape) m) [
        | inl past ↦ omega arith
        | inr le ↦ absurd (both_ways (same_content (content tape) (content (tape ++ change ∷ []))) differ
            (ap (λ c. same_content c (content (tape ++ change ∷ [])))
            (sym (ap content (take_all (length tape) tape (omega arith)))
            ∙ ap content (sym (version-push (length tape) tape change (omega arith)))
            ∙ stays (length tape) le (omega (arith, length-append tape (change ∷ []))))
            ∙ same_content-refl (content (tape ++ change ∷ []))))
      ];
    })

receipt_of_nothing : (part sym : ℕ) (side : Side) → IsReceipt part sym side [] (receipt_of part sym side [])
unfolding before_equal_end
receipt_of_nothing part symbol side = record {
  within = omega arith;
  stays = λ k low high. ap (content_at part symbol side) (take_all k [] (omega arith));
  least = λ m stays. omega arith;
}

pub receipt_is_least : (part sym : ℕ) (side : Side) (tape : Tape) → IsReceipt part sym side tape (receipt_of part sym side tape)
receipt_is_least part symbol side tape =
    by_last_change (λ tape. IsReceipt part symbol side tape (receipt_of part symbol side tape)) (receipt_of_nothing part symbol side) step
    tape
  where
    step : (tape : Tape) (change : Change) → IsReceipt part symbol side tape (receipt_of part symbol side tape)
        → IsReceipt part symbol side (tape ++ change ∷ []) (receipt_of part symbol side (tape ++ change ∷ []))
    step tape change old =
        let before = content_at part symbol side tape in
        let now = content_at part symbol side (tape ++ change ∷ []) in
        elim (cases_Bool (same_content before now)) [
          | inl same ↦ receipt_kept part symbol side tape change
              (receipt_stays part symbol side tape change (sym (same_content-true before now same))) old
          | inr differ ↦ receipt_new part symbol side tape change differ
        ]

-- a change that says nothing of a side leaves it
pub unsaid_keeps : (part sym : ℕ) (side : Side) (tape : Tape) (change : Change) → said_of part sym side change ≡ None
    → KeepsSide part sym side tape change
unsaid_keeps part symbol side tape change unsaid =
    receipt_stays part symbol side tape change
    (content_at-push part symbol side tape change ∙ ap (λ said. unwrap_or said (content_at part symbol side tape)) unsaid)

-- a change of another participant says nothing of a side
others_say_nothing : (part sym : ℕ) (side : Side) (change : Change) → participant_of change ≢ Some part
    → said_of part sym side change ≡ None
others_say_nothing part symbol side (Quote p s state bid offer) other =
    rw (and_left (eqb p part) (eqb s symbol) (ne_eqb p part (λ e. other (ap Some e)))) refl
others_say_nothing part symbol side (State p s state) other = refl
others_say_nothing part symbol side (Withdraw p) other = rw (ne_eqb p part (λ e. other (ap Some e))) refl
others_say_nothing part symbol side (Lot s lot) other = refl

pub others_keep : (part sym : ℕ) (side : Side) (tape : Tape) (change : Change) → participant_of change ≢ Some part
    → KeepsSide part sym side tape change
others_keep part symbol side tape change other =
    unsaid_keeps part symbol side tape change (others_say_nothing part symbol side change other)

-- a quote that gives a side what it has leaves it
pub repeat_keeps : (part sym : ℕ) (side : Side) (tape : Tape) (state : QState) (bid offer : Option Content)
    → content_at part sym side tape ≡ on_side side bid offer → KeepsSide part sym side tape (Quote part sym state bid offer)
repeat_keeps part symbol side tape state bid offer same =
    let change = Quote part symbol state bid offer in
    let here : (part == part && symbol == symbol) ≡ true =
    and_from (eqb part part) (eqb symbol symbol) (eq-eqb part part refl) (eq-eqb symbol symbol refl) in
    let said : said_of part symbol side change ≡ Some (on_side side bid offer) = rw here refl in
    receipt_stays part symbol side tape change
    (content_at-push part symbol side tape change ∙ ap (λ said. unwrap_or said (content_at part symbol side tape)) said ∙ sym same)

-- changes of others leave a side
keeps_along : (part sym : ℕ) (side : Side) (tape others : Tape) → All (λ change. participant_of change ≢ Some part) others
    → (content_at part sym side (tape ++ others) ≡ content_at part sym side tape)
    × (receipt_of part sym side (tape ++ others) ≡ receipt_of part sym side tape)
keeps_along part symbol side tape [] all =
    (ap (content_at part symbol side) (append-nil tape), ap (receipt_of part symbol side) (append-nil tape))
keeps_along part symbol side tape (change ∷ others) all =
    let first = others_keep part symbol side tape change (All-head (λ change. participant_of change ≢ Some part) change others all) in
    let rest = keeps_along part symbol side (tape ++ change ∷ []) others
    (All-tail (λ change. participant_of change ≢ Some part) change others all) in
    let regroup : tape ++ change ∷ others ≡ (tape ++ change ∷ []) ++ others = sym (append_assoc tape (change ∷ []) others) in
    (ap (content_at part symbol side) regroup ∙ rest.0 ∙ first.content, ap (receipt_of part symbol side) regroup ∙ rest.1 ∙ first.receipt)

-- the state that a change of state gives
state_given : (part sym : ℕ) (tape : Tape) (state : QState) → state_at part sym (tape ++ State part sym state ∷ []) ≡ Some state
state_given part symbol tape state =
    let here : (part == part && symbol == symbol) ≡ true =
    and_from (eqb part part) (eqb symbol symbol) (eq-eqb part part refl) (eq-eqb symbol symbol refl) in
    state_at-push part symbol tape (State part symbol state) ∙ rw here refl

halted_shows_nothing : (lot part receipt : ℕ) (content : Option Content) → quotation lot part (Some Halted) receipt content ≡ None
halted_shows_nothing lot part receipt None = refl
halted_shows_nothing lot part receipt (Some content) = refl

pub halting_hides_and_keeps : (sizes : Sizes) (part sym : ℕ) (tape : Tape) → HidesAndKeeps sizes part sym tape
halting_hides_and_keeps sizes part symbol tape =
    let halted = tape ++ State part symbol Halted ∷ [] in
    record {
      keeps = λ p s side. unsaid_keeps p s side tape (State part symbol Halted) refl;
      hides = λ side. rw (state_given part symbol tape Halted)
          (halted_shows_nothing (lot_at sizes halted symbol) part (receipt_of part symbol side halted)
          (content_at part symbol side halted));
      shows_again = λ side others all.
          let first = unsaid_keeps part symbol side tape (State part symbol Halted) refl in
          let between = keeps_along part symbol side halted others all in
          let last = unsaid_keeps part symbol side (halted ++ others) (State part symbol Automated) refl in
          rw (
            state_given part symbol (halted ++ others) Automated,
            last.receipt,
            last.content,
            between.0,
            between.1,
            first.receipt,
            first.content,
          ) refl;
    }

-- a side that quotes something was altered by some change
pub receipt_counts : (part sym : ℕ) (side : Side) (tape : Tape) → content_at part sym side tape ≢ None → 1 ≤ receipt_of part sym side tape
receipt_counts part symbol side tape something =
    let receipt = receipt_is_least part symbol side tape in
    elim (cases_lt 0 (receipt_of part symbol side tape)) [
      | inl above ↦ above
      | inr zero_is ↦ absurd (something (sym (receipt.stays 0 zero_is (omega arith))))
    ]

-- two sides, one of which a change leaves as it is
one_altered : (p q sym : ℕ) (one other : Side) (tape : Tape) (change : Change) → KeepsSide q sym other tape change
    → (content_at p sym one tape ≢ None → content_at q sym other tape ≢ None → receipt_of p sym one tape ≢ receipt_of q sym other tape)
    → content_at p sym one (tape ++ change ∷ []) ≢ None → content_at q sym other (tape ++ change ∷ []) ≢ None
    → receipt_of p sym one (tape ++ change ∷ []) ≢ receipt_of q sym other (tape ++ change ∷ [])
one_altered p q symbol one other tape change kept apart p_quotes q_quotes equal =
    let before = content_at p symbol one tape in
    let now = content_at p symbol one (tape ++ change ∷ []) in
    elim (cases_Bool (same_content before now)) [
      | inl same ↦
          let p_kept = receipt_stays p symbol one tape change (sym (same_content-true before now same)) in
          apart (λ none. p_quotes (p_kept.content ∙ none)) (λ none. q_quotes (kept.content ∙ none))
          (sym p_kept.receipt ∙ equal ∙ kept.receipt)
      | inr differ ↦
          absurd (omega (arith, altered p symbol one tape change differ, (receipt_is_least q symbol other tape).within, kept.receipt))
    ]

-- a change is a participant's, or not
sent_by : (change : Change) (part : ℕ) → (participant_of change ≡ Some part) ⊎ (participant_of change ≢ Some part)
sent_by change part = by (participant_of change)
  where
    by : (sender : Option ℕ) → (sender ≡ Some part) ⊎ (sender ≢ Some part)
    by None = inr (λ e. none-some part e)
    by (Some p) = elim (cases_eq p part) [
      | inl same ↦ inl (ap Some same)
      | inr differ ↦ inr (λ e. differ (same_Some p part e))
    ]

-- quoted sides of different participants have different receipts
abbrev Apart : ℕ → Tape → Type 0
Apart symbol tape = (p q : ℕ) (one other : Side) → p ≢ q → content_at p symbol one tape ≢ None → content_at q symbol other tape ≢ None
    → receipt_of p symbol one tape ≢ receipt_of q symbol other tape

pub receipts_differ : (sym : ℕ) (tape : Tape) → Apart sym tape
receipts_differ symbol tape = by_last_change (Apart symbol) (λ p q one other ne p_quotes q_quotes equal. p_quotes refl) step tape
  where
    step : (tape : Tape) (change : Change) → Apart symbol tape → Apart symbol (tape ++ change ∷ [])
    step tape change apart p q one other ne p_quotes q_quotes equal =
        elim (sent_by change q) [
          | inr not_q ↦ one_altered p q symbol one other tape change (others_keep q symbol other tape change not_q) (apart p q one other ne)
              p_quotes q_quotes equal
          | inl is_q ↦ one_altered q p symbol other one tape change
              (others_keep p symbol one tape change (λ is_p. ne (same_Some p q (sym is_p ∙ is_q)))) (apart q p other one (λ e. ne (sym e)))
              q_quotes p_quotes (sym equal)
        ]

-- what a quotation is made of
record IsQuotationOf (content : Option Content) (receipt : ℕ) (row : Row) : Type 0 where
  quotes : content ≢ None
  receipt_is : row.receipt ≡ receipt

quotation_parts : (lot part : ℕ) (state : Option QState) (receipt : ℕ) (content : Option Content) (row : Row)
    → quotation lot part state receipt content ≡ Some row → IsQuotationOf content receipt row
quotation_parts lot part state receipt None row is = absurd (cc)
quotation_parts lot part state receipt (Some content) row is = record {
  quotes = λ none. cc;
  receipt_is = by_tests (is_halted state) (displayed_size lot content.shares == 0) is;
}
  where
    by_tests : (halted nothing : Bool) → (if halted then None else (if nothing then None else Some (record {
      part = part;
      price =
          content.price;
      size = displayed_size lot content.shares;
      receipt = receipt;
      protected = is_automated state;
    }))) ≡ Some row
        → row.receipt ≡ receipt
    by_tests true nothing is = absurd (cc)
    by_tests false true is = absurd (cc)
    by_tests false false is = cc

quotation_of_parts : (sizes : Sizes) (tape : Tape) (sym : ℕ) (side : Side) (part : ℕ) (row : Row)
    → quotation_of sizes tape sym side part ≡ Some row → IsQuotationOf (content_at part sym side tape) (receipt_of part sym side tape) row
quotation_of_parts sizes tape symbol side part row is =
    quotation_parts (lot_at sizes tape symbol) part (state_at part symbol tape) (receipt_of part symbol side tape)
    (content_at part symbol side tape) row is

pub quotations_differ : (sizes : Sizes) (tape : Tape) (sym : ℕ) (one other : Side) (p q : ℕ) (row second : Row) → p ≢ q
    → quotation_of sizes tape sym one p ≡ Some row → quotation_of sizes tape sym other q ≡ Some second → row.receipt ≢ second.receipt
quotations_differ sizes tape symbol one other p q row second ne row_is second_is equal =
    let of_row = quotation_of_parts sizes tape symbol one p row row_is in
    let of_second = quotation_of_parts sizes tape symbol other q second second_is in
    receipts_differ symbol tape p q one other ne of_row.quotes of_second.quotes (sym of_row.receipt_is ∙ equal ∙ of_second.receipt_is)

pub quotation_counts : (sizes : Sizes) (tape : Tape) (sym : ℕ) (side : Side) (part : ℕ) (row : Row)
    → quotation_of sizes tape sym side part ≡ Some row → (1 ≤ row.receipt) × (row.receipt ≤ length tape)
quotation_counts sizes tape symbol side part row is =
    let of_row = quotation_of_parts sizes tape symbol side part row is in (
      omega (arith, of_row.receipt_is, receipt_counts part symbol side tape of_row.quotes),
      omega (arith, of_row.receipt_is, (receipt_is_least part symbol side tape).within),
    )

-- what holds of each answer over a range holds of each element of the list of answers
pub all_answers : {Y : Type 0} (P : Y → Type 0) (f : ℕ → Option Y) (low n : ℕ) → ((k : ℕ) (y : Y) → low ≤ k → f k ≡ Some y → P y)
    → All P (filter_map f (range_with_len low n))
all_answers {Y = Y} P f low zero each = All-nil P
all_answers {Y = Y} P f low (suc n) each =
    with_first (f low) (λ y is. each low y (omega arith) is) (all_answers P f (low + 1) n (λ k y above is. each k y (omega arith) is))
  where
    with_first : (first : Option Y) → ((y : Y) → first ≡ Some y → P y) → All P (filter_map f (range_with_len (low + 1) n))
        → All P (cons_option first (filter_map f (range_with_len (low + 1) n)))
    with_first None holds rest = rest
    with_first (Some y) holds rest = All-cons P y (filter_map f (range_with_len (low + 1) n)) (holds y refl) rest

-- and what holds of two answers, of each two
pub all_pairs_of_answers : {Y : Type 0} (R : Y → Y → Type 0) (f : ℕ → Option Y)
    → ((j k : ℕ) (y z : Y) → j < k → f j ≡ Some y → f k ≡ Some z → R y z) → (low n : ℕ) → AllPairs R (filter_map f (range_with_len low n))
all_pairs_of_answers R f each low zero = λ i j d lt below. absurd (omega arith)
all_pairs_of_answers {Y = Y} R f each low (suc n) =
    with_first (f low) (λ y is. all_answers (R y) f (low + 1) n (λ k z above z_is. each low k y z (omega arith) is z_is))
    (all_pairs_of_answers R f each (low + 1) n)
  where
    with_first : (first : Option Y) → ((y : Y) → first ≡ Some y → All (R y) (filter_map f (range_with_len (low + 1) n)))
        → AllPairs R (filter_map f (range_with_len (low + 1) n))
        → AllPairs R (cons_option first (filter_map f (range_with_len (low + 1) n)))
    with_first None holds rest = rest
    with_first (Some y) holds rest = AllPairs-cons R y (filter_map f (range_with_len (low + 1) n)) (holds y refl) rest

pub rows_differ : (sizes : Sizes) (tape : Tape) (sym : ℕ) (side : Side)
    → AllPairs (λ row other. row.receipt ≢ other.receipt) (quotations sizes tape sym side)
rows_differ sizes tape symbol side =
    all_pairs_of_answers (λ (row : Row) (other : Row). row.receipt ≢ other.receipt) (quotation_of sizes tape symbol side)
    (λ p q row other lt row_is other_is. quotations_differ sizes tape symbol side side p q row other (λ e. omega arith) row_is other_is) 0
    sizes.parts

pub rows_count : (sizes : Sizes) (tape : Tape) (sym : ℕ) (side : Side)
    → All (λ row. (1 ≤ row.receipt) × (row.receipt ≤ length tape)) (quotations sizes tape sym side)
rows_count sizes tape symbol side =
    all_answers (λ (row : Row). (1 ≤ row.receipt) × (row.receipt ≤ length tape)) (quotation_of sizes tape symbol side) 0 sizes.parts
    (λ part row low is. quotation_counts sizes tape symbol side part row is)

-- the lot that a change of it gives a symbol of the roster
lot_given : (sizes : Sizes) (sym lot : ℕ) (tape : Tape) → sym < length sizes.lots → lot_at sizes (tape ++ Lot sym lot ∷ []) sym ≡ lot
lot_given sizes symbol lot tape below =
    let opened = slice_get-get_or sizes.lots symbol 0 below in
    let said : lot_said symbol (Lot symbol lot) ≡ Some lot = rw (eq-eqb symbol symbol refl) refl in
    let listed : lot_listed sizes (tape ++ Lot symbol lot ∷ []) symbol ≡ Some lot = lot_listed-push sizes symbol tape (Lot symbol lot)
    ∙ rw (said, opened) refl in
    ap (λ (l : Option ℕ). unwrap_or l 0) listed

-- a change that says nothing of a symbol's sides, states and lot leaves its quotations
quotation_stays : (sizes : Sizes) (sym : ℕ) (side : Side) (part : ℕ) (tape : Tape) (change : Change) → KeepsSide part sym side tape change
    → state_at part sym (tape ++ change ∷ []) ≡ state_at part sym tape → lot_at sizes (tape ++ change ∷ []) sym ≡ lot_at sizes tape sym
    → quotation_of sizes (tape ++ change ∷ []) sym side part ≡ quotation_of sizes tape sym side part
quotation_stays sizes symbol side part tape change keeps state lot = rw (keeps.content, keeps.receipt, state, lot) refl

pub new_lot_keeps : (sizes : Sizes) (sym lot : ℕ) (tape : Tape) → sym < length sizes.lots → KeepsReceipts sizes sym lot tape
new_lot_keeps sizes symbol lot tape below =
    let change = Lot symbol lot in
    let after = tape ++ change ∷ [] in
    let keeps : (part s : ℕ) (side : Side) → KeepsSide part s side tape change = λ part s side. unsaid_keeps part s side tape change refl in
    let state : (part s : ℕ) → state_at part s after ≡ state_at part s tape = λ part s. state_at-push part s tape change in
    let ranks : (part : ℕ) (side : Side) → quotation_of sizes after symbol side part
    ≡ quotation lot part (state_at part symbol tape) (receipt_of part symbol side tape) (content_at part symbol side tape) =
    λ part side. rw (
      (keeps part symbol side).content,
      (keeps part symbol side).receipt,
      state part symbol,
      lot_given sizes symbol lot tape below,
    ) refl in
    let comes : (part : ℕ) (side : Side) (row : Row) → quotation_of sizes after symbol side part ≡ Some row
    → row.receipt ≡ receipt_of part symbol side tape =
    λ part side row is. (quotation_of_parts sizes after symbol side part row is).receipt_is ∙ (keeps part symbol side).receipt in
    record {
      keeps = keeps;
      ranks = ranks;
      comes = comes;
      stays = λ part side row was is was_is. comes part side row is
          ∙ sym (quotation_of_parts sizes tape symbol side part was was_is).receipt_is;
      elsewhere = λ s side ne.
          let listed = lot_listed_unsaid sizes s tape change (rw (ne_eqb symbol s ne) refl) in
          filter_map_same (quotation_of sizes after s side) (quotation_of sizes tape s side) 0 sizes.parts
          (λ part low high. quotation_stays sizes s side part tape change (keeps part s side) (state part s)
          (ap (λ (l : Option ℕ). unwrap_or l 0) listed));
    }
