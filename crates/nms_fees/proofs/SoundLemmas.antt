-- What follows if no place of a document has a fault.
use Rattle.std.proofs.Common.{codes, ◌≡◌, ℕ, ℤ, pos, negsuc, neg_ℤ, unsigned_abs, ◌≤ℤ◌, ◌+◌, ◌<◌, ◌≤◌, Bool, true, false, ◌&&◌, ◌||◌}
use Rattle.std.proofs.Common.{nat_lt, List, [], ◌∷◌, ◌++◌, length, take, drop}
use Rattle.std.proofs.Common.{get_or, map, Option, Some, None, if◌then◌else◌, is_some, unwrap_or, option_and_then}
use Rattle.std.proofs.Common.{refl, ap, sym, ◌∙◌, arith, fold, subst, zero, suc, append_assoc}
use Rattle.std.specs.Int.RustNames.{int_le}
use Rattle.std.proofs.lemmas.Int.{ints}
use Rattle.std.proofs.lemmas.Bool.{false≢true, and_parts}
use Rattle.std.proofs.lemmas.List.Elements.{All-nil, All-cons}
use Rattle.std.proofs.lemmas.Bool.Decides.{nat_tests}
use Rattle.std.proofs.lemmas.List.{take-append-drop, length-take, length-map, map-append, drop_more}
use Rattle.std.specs.List.{AllByRecursion, list_any, filter_map, position, position_or_len}
use Rattle.std.specs.Option.{option_map_or}
use Rattle.std.specs.Str.{bytes_eq}
use Rattle.toml.specs.Data.{Data, string, integer, array, table, Members, get_member, as_str, as_integer}
use Rattle.toml.specs.View.{view}
use Rattle.toml.specs.declared.value.Value.{Value}
use Rattle.nms_quote.specs.Merge.{place_of}
use Rattle.nms_quote.specs.declared.feed.Feed.{Feed}
use Rattle.nms_quote.specs.declared.feed.Feed.TheVariants as feed
use Rattle.nms_quote.specs.Roster.{Name, place_in, refusal_in}
use Rattle.nms_quote.specs.declared.TheConstants.{MOST_CHANGES, MOST_FEEDS}
use Rattle.nms_fee_book.specs.declared.TheConstants.{MOST_FEE, MOST_RATE}
use Rattle.nms_fees.specs.declared.choices.Choices.{Choices}
use Rattle.nms_fees.specs.declared.TheConstants.{LEAST_QUEUE, MOST_DESKS, MOST_QUEUE, USUAL_FEEDS}
use Rattle.nms_fee_book.specs.Fees.{fee_cap, rate_cap, IsCapped, AreCapped}
use Rattle.nms_fees.specs.Faults.{lesser, least}
use Rattle.nms_fees.specs.Places.{choices_in, feed_fault, feed_named, feeds_in, feeds_of, is_feed, range_fault, cap_fault, name_fault}
use Rattle.nms_fees.specs.Places.{is_name_in, participant_findings, symbol_findings, row_fault, name_in}
use Rattle.nms_fees.specs.Places.{has_repeat, most_of, count_fault, rows_in, rows_findings}
use Rattle.nms_fees.specs.Places.{rows_fault, array_fault, document_findings, document_fault}
use Rattle.nms_fees.specs.Setup.{text_at, count_at, rows_at, table_of, feed_of_text, participant_of, schedule_of}
use Rattle.nms_fees.specs.declared.section.Section.{Section}
use Rattle.nms_fees.specs.declared.section.Section.TheVariants as section
use Rattle.nms_fees.specs.declared.setup_fault.SetupFault.{SetupFault}
use Rattle.nms_fees.specs.declared.setup_fault.SetupFault.TheVariants as fault
use Rattle.nms_fees.proofs.NameLemmas.{has_repeat-push, has_repeat-front}

one_of : (b : Bool) (first second : SetupFault) {P : Type 0} → (if b then Some first else Some second) ≡ None → P
one_of true first second h = cc
one_of false first second h = cc

-- the lesser of two findings is nothing only if both are
pub lesser-none : (first second : Option SetupFault) → lesser first second ≡ None → (first ≡ None) × (second ≡ None)
lesser-none None second h = (refl, h)
lesser-none (Some first) None h = cc
lesser-none (Some first) (Some second) h = one_of _ first second h

least_none : (first : Option SetupFault) (found : List (Option SetupFault)) → fold lesser first found ≡ None
    → (first ≡ None) × AllByRecursion (λ finding. finding ≡ None) found
least_none first [] h = (h, tt)
least_none first (finding ∷ found) h =
    let rest = least_none (lesser first finding) found h in
    let parts = lesser-none first finding rest.0 in
    (parts.0, (parts.1, rest.1))

-- if no finding is a fault, each is none
pub none_from_least : (found : List (Option SetupFault)) → least found ≡ None → AllByRecursion (λ finding. finding ≡ None) found
none_from_least found h = (least_none None found h).1

-- a test that did not fail passed
if_none : (b : Bool) (rest : Option SetupFault) (found : SetupFault) → (if b then rest else Some found) ≡ None → (b ≡ true) × (rest ≡ None)
if_none true rest found h = (refl, h)
if_none false rest found h = cc

le_from : (a b : ℤ) → int_le a b ≡ true → a ≤ℤ b
le_from a b h = grind (arith, ints)

-- a number in its range
pub number_found : (low high : ℤ) (found : Option Data) → option_map_or (range_fault low high) found (Some fault.Missing) ≡ None
    → (low ≤ℤ unwrap_or (option_and_then as_integer found) (pos 0)) × (unwrap_or (option_and_then as_integer found) (pos 0) ≤ℤ high)
number_found low high None h = cc
number_found low high (Some (integer n)) h =
    let within = and_parts (int_le low n) (int_le n high) (if_none _ None fault.OutOfRange h).0 in
    (le_from low n within.0, le_from n high within.1)
number_found low high (Some value) h = cc

-- a charge that is not over its cap
pub charge_found : (most cap : ℕ) (found : Option Data) → option_map_or (cap_fault most cap) found (Some fault.Missing) ≡ None
    → (neg_ℤ (pos most) ≤ℤ unwrap_or (option_and_then as_integer found) (pos 0)) ×
    (unwrap_or (option_and_then as_integer found) (pos 0) ≤ℤ pos cap)
charge_found most cap None h = cc
charge_found most cap (Some (integer n)) h =
    let range = if_none (int_le (neg_ℤ (pos most)) n && int_le n (pos most))
    (if int_le n (pos cap) then None else Some fault.OverCap) fault.OutOfRange h in (
      le_from (neg_ℤ (pos most)) n (and_parts (int_le (neg_ℤ (pos most)) n) (int_le n (pos most)) range.0).0,
      le_from n (pos cap) (if_none _ None fault.OverCap range.1).0,
    )
charge_found most cap (Some value) h = cc

-- a name of its form
name_found : (s : Section) (found : Option Data) → option_map_or (name_fault (is_name_in s)) found (Some fault.Missing) ≡ None
    → (option_and_then as_str found ≡ Some (unwrap_or (option_and_then as_str found) [])) ×
    (is_name_in s (unwrap_or (option_and_then as_str found) []) ≡ true)
name_found s None h = cc
name_found s (Some (string name)) h = (refl, (if_none (is_name_in s name) None fault.BadName h).0)
name_found s (Some value) h = cc

-- the name of a row, empty if it has none
abbrev pub name_at : Data → Name
name_at row = text_at (codes "name") (table_of row)

-- a row without a fault has a name of its form
pub name_of_row : (chosen : Choices) (s : Section) (row : Data) → row_fault chosen s row ≡ None
    → (name_in row ≡ Some (name_at row)) × (is_name_in s (name_at row) ≡ true)
name_of_row chosen section.Participant (table members) h =
    name_found section.Participant (get_member (codes "name") members) (none_from_least (participant_findings chosen members) h).1.0
name_of_row chosen section.Symbol (table members) h =
    name_found section.Symbol (get_member (codes "name") members) (none_from_least (symbol_findings members) h).1.0
name_of_row chosen section.Participant row h = cc
name_of_row chosen section.Symbol row h = cc

-- no name is left out if no row has a fault
pub names_of_rows : (chosen : Choices) (s : Section) (rows : List Data) → AllByRecursion (λ row. row_fault chosen s row ≡ None) rows
    → filter_map name_in rows ≡ map name_at rows
names_of_rows chosen s [] h = refl
names_of_rows chosen s (row ∷ rows) h = rw ((name_of_row chosen s row h.0).0, names_of_rows chosen s rows h.1)

-- a row without a fault has charges within their caps
charges_of_row : (chosen : Choices) (row : Data) → row_fault chosen section.Participant row ≡ None → IsCapped chosen.caps (schedule_of row)
charges_of_row chosen (table members) h =
    let found = none_from_least (participant_findings chosen members) h in
    let fee = charge_found MOST_FEE (fee_cap chosen.caps) (get_member (codes "fee") members) found.1.1.1.0 in
    let rate = charge_found MOST_RATE (rate_cap chosen.caps) (get_member (codes "rate") members) found.1.1.1.1.0 in
    record { fee_low = fee.0; fee_cap = fee.1; rate_low = rate.0; rate_cap = rate.1 }
charges_of_row chosen row h = cc

-- a row without a fault names one of the first feeds that the document has
feed_found : (count : ℕ) (found : Option Data) → option_map_or (feed_fault count) found (Some fault.Missing) ≡ None
    → place_of (feed_of_text (unwrap_or (option_and_then as_str found) [])) < count
feed_found count None h = cc
feed_found count (Some (string text)) h = of_named (feed_named text) (if_none (is_feed count text) None fault.OutOfRange h).0
  where
    below : (m n : ℕ) → nat_lt m n ≡ true → m < n
    below m n e = grind (arith, nat_tests)

    of_named : (named : Option Feed) → option_map_or (λ of. nat_lt (place_of of) count) named false ≡ true
        → place_of (unwrap_or named feed.A) < count
    of_named None e = cc
    of_named (Some of) e = below (place_of of) count e
feed_found count (Some value) h = cc

feed_of_row : (chosen : Choices) (row : Data) → row_fault chosen section.Participant row ≡ None
    → place_of (participant_of row).1 < chosen.feeds
feed_of_row chosen (table members) h = feed_found chosen.feeds (get_member (codes "feed") members)
    (none_from_least (participant_findings chosen members) h).1.1.0
feed_of_row chosen row h = cc

each_of_map : (chosen : Choices) (s : Section) (rows : List Data)
    → AllByRecursion (λ finding. finding ≡ None) (map (row_fault chosen s) rows)
    → AllByRecursion (λ row. row_fault chosen s row ≡ None) rows
each_of_map chosen s [] h = tt
each_of_map chosen s (row ∷ rows) h = (h.0, each_of_map chosen s rows h.1)

-- no row has a fault if its array has none
each_sound : (chosen : Choices) (s : Section) (rows : List Data) → rows_fault chosen s rows ≡ None
    → AllByRecursion (λ row. row_fault chosen s row ≡ None) rows
each_sound chosen s rows h = each_of_map chosen s rows
    (none_from_least (map (row_fault chosen s) rows) (none_from_least (rows_findings chosen s rows) h).1.1.0)

element_of : (P : Data → Type 0) (rows : List Value) (i : ℕ) (row : Value) → AllByRecursion P (map view rows) → i < length rows
    → row ≡ get_or rows i row → P (view row)
element_of P [] i row h within here = absurd (omega arith)
element_of P (first ∷ rows) zero row h within here = subst (λ value. P (view value)) (sym here) h.0
element_of P (first ∷ rows) (suc i) row h within here = element_of P rows i row h.1 (omega arith) here

pub row_sound : (chosen : Choices) (s : Section) (rows : List Value) (i : ℕ) (row : Value) → rows_fault chosen s (map view rows) ≡ None
    → i < length rows → row ≡ get_or rows i row → row_fault chosen s (view row) ≡ None
row_sound chosen s rows i row h within here = element_of (λ value. row_fault chosen s value ≡ None) rows i row
    (each_sound chosen s (map view rows) h) within here

or_false : (a b : Bool) → (a || b) ≡ false → (a ≡ false) × (b ≡ false)
or_false true b h = cc
or_false false b h = (refl, h)

-- an entry is found by its name
any_entry : {Z : Type 0} (z : Data → Z) (name : Name) (rows : List Data)
    → list_any (λ (entry : Name × Z). bytes_eq name entry.0) (map (λ row. (name_at row, z row)) rows) ≡ list_any (bytes_eq name)
    (map name_at rows)
any_entry z name [] = refl
any_entry z name (row ∷ rows) = ap (λ rest. bytes_eq name (name_at row) || rest) (any_entry z name rows)

none_found : {Z : Type 0} (test : Z → Bool) (entries : List Z) → list_any test entries ≡ false
    → position_or_len test entries ≡ length entries
none_found test [] h = refl
none_found test (entry ∷ entries) h =
    let parts = or_false (test entry) (list_any test entries) h in
    rw parts.0 (omega (arith, none_found test entries parts.1))

no_place : {Z : Type 0} (test : Z → Bool) (entries : List Z) → list_any test entries ≡ false → is_some (position test entries) ≡ false
no_place test entries h =
    let past : nat_lt (length entries) (length entries) ≡ false = grind (arith, nat_tests) in
    rw (none_found test entries h, past)

-- a name that is there only once is not among those before it
once_before : (names more : List Name) (name : Name) → has_repeat (names ++ name ∷ more) ≡ false → list_any (bytes_eq name) names ≡ false
once_before names more name h = (or_false (has_repeat names) (list_any (bytes_eq name) names)
    (sym (has_repeat-push names name) ∙ front_once (has_repeat (names ++ name ∷ [])) refl)).1
  where
    front_once : (b : Bool) → has_repeat (names ++ name ∷ []) ≡ b → b ≡ false
    front_once false e = refl
    front_once true e = absurd (false≢true (sym h ∙ ap has_repeat (sym (append_assoc names (name ∷ []) more))
        ∙ has_repeat-front (names ++ name ∷ []) more e))

room_for : (most count i : ℕ) → count_fault most count ≡ None → i < count → nat_lt i most ≡ true
room_for most count i h within = grind (arith, nat_tests)

split_at : (rows : List Value) (i : ℕ) (row : Value) → i < length rows → row ≡ get_or rows i row
    → rows ≡ take i rows ++ row ∷ drop (i + 1) rows
split_at rows i row within here =
    sym (take-append-drop i rows) ∙ ap (λ rest. take i rows ++ rest)
    (drop_more rows i row within ∙ ap (λ first. first ∷ drop (i + 1) rows) (sym here))

-- the names of the rows before a row, and its own
names_split : (rows : List Value) (i : ℕ) (row : Value) → i < length rows → row ≡ get_or rows i row
    → map name_at (map view rows) ≡ map name_at (map view (take i rows)) ++ name_at (view row) ∷ map name_at (map view (drop (i + 1) rows))
names_split rows i row within here =
    ap (λ all. map name_at (map view all)) (split_at rows i row within here)
    ∙ ap (map name_at) (map-append view (take i rows) (row ∷ drop (i + 1) rows))
    ∙ map-append name_at (map view (take i rows)) (view row ∷ map view (drop (i + 1) rows))

-- if no fault of a repeated name is found, no name is repeated
not_repeated : (b : Bool) → (if b then Some fault.BadName else None) ≡ None → b ≡ false
not_repeated true h = cc
not_repeated false h = refl

-- no roster that has the rows before it refuses a row of an array without a fault
pub unrefused : {Z : Type 0} (chosen : Choices) (s : Section) (z : Data → Z) (rows : List Value) (i : ℕ) (row : Value)
    (entries : List (Name × Z)) → rows_fault chosen s (map view rows) ≡ None → i < length rows → row ≡ get_or rows i row
    → entries ≡ map (λ value. (name_at value, z value)) (map view (take i rows))
    → refusal_in (is_name_in s) (most_of s) entries (name_at (view row)) ≡ None
unrefused {Z} chosen s z rows i row entries sound within here before =
    let found = none_from_least (rows_findings chosen s (map view rows)) sound in
    let formed : is_name_in s (name_at (view row)) ≡ true =
    (name_of_row chosen s (view row) (row_sound chosen s rows i row sound within here)).1 in
    let once : has_repeat (map name_at (map view rows)) ≡ false =
    ap has_repeat (sym (names_of_rows chosen s (map view rows) (each_sound chosen s (map view rows) sound)))
    ∙ not_repeated _ found.1.0 in
    let unmet : list_any (bytes_eq (name_at (view row))) (map name_at (map view (take i rows))) ≡ false =
    once_before (map name_at (map view (take i rows))) (map name_at (map view (drop (i + 1) rows))) (name_at (view row))
    (ap has_repeat (sym (names_split rows i row within here)) ∙ once) in
    let absent : is_some (place_in entries (name_at (view row))) ≡ false =
    no_place (λ (entry : Name × Z). bytes_eq (name_at (view row)) entry.0) entries
    (ap (list_any (λ (entry : Name × Z). bytes_eq (name_at (view row)) entry.0)) before
    ∙ any_entry z (name_at (view row)) (map view (take i rows)) ∙ unmet) in
    let count : length entries ≡ i = ap length before ∙ simp (length-map, length-take) (omega arith) in
    let all : length (map view rows) ≡ length rows = simp length-map in
    let enough : nat_lt (length entries) (most_of s) ≡ true =
    rw count (room_for (most_of s) (length (map view rows)) i found.0 (omega arith)) in
    rw (formed, absent, enough)

-- this holds for all rows of an array without a fault
each_capped : (chosen : Choices) (rows : List Data) → AllByRecursion (λ row. row_fault chosen section.Participant row ≡ None) rows
    → AreCapped chosen.caps (map schedule_of rows)
each_capped chosen [] h = All-nil (IsCapped chosen.caps)
each_capped chosen (row ∷ rows) h = All-cons (IsCapped chosen.caps) (schedule_of row) (map schedule_of rows)
    (charges_of_row chosen row h.0) (each_capped chosen rows h.1)

pub charges_of_rows : (chosen : Choices) (rows : List Data) → rows_fault chosen section.Participant rows ≡ None
    → AreCapped chosen.caps (map schedule_of rows)
charges_of_rows chosen rows h = each_capped chosen rows (each_sound chosen section.Participant rows h)

each_feed : (chosen : Choices) (rows : List Data) → AllByRecursion (λ row. row_fault chosen section.Participant row ≡ None) rows
    → AllByRecursion (λ entry. place_of entry.1 < chosen.feeds) (map participant_of rows)
each_feed chosen [] h = tt
each_feed chosen (row ∷ rows) h = (feed_of_row chosen row h.0, each_feed chosen rows h.1)

pub feeds_of_rows : (chosen : Choices) (rows : List Data) → rows_fault chosen section.Participant rows ≡ None
    → AllByRecursion (λ entry. place_of entry.1 < chosen.feeds) (map participant_of rows)
feeds_of_rows chosen rows h = each_feed chosen rows (each_sound chosen section.Participant rows h)

array_found : (chosen : Choices) (s : Section) (found : Option Data)
    → option_map_or (array_fault chosen s) found (Some fault.Missing) ≡ None
    → rows_fault chosen s (unwrap_or (option_and_then rows_in found) []) ≡ None
array_found chosen s None h = cc
array_found chosen s (Some (array items)) h = h
array_found chosen s (Some value) h = cc

-- a number of a range above zero, as its size
count_found : (low high : ℕ) (found : Option Data) → option_map_or (range_fault (pos low) (pos high)) found (Some fault.Missing) ≡ None
    → (low ≤ unsigned_abs (unwrap_or (option_and_then as_integer found) (pos 0))) ×
    (unsigned_abs (unwrap_or (option_and_then as_integer found) (pos 0)) ≤ high)
count_found low high found h =
    let range = number_found (pos low) (pos high) found h in
    size_within low high (unwrap_or (option_and_then as_integer found) (pos 0)) range.0 range.1
  where
    size_within : (low high : ℕ) (n : ℤ) → pos low ≤ℤ n → n ≤ℤ pos high → (low ≤ unsigned_abs n) × (unsigned_abs n ≤ high)
    size_within low high (pos n) above below = (omega (arith, ints), omega (arith, ints))
    size_within low high (negsuc n) above below = absurd (omega (arith, ints))

-- a chosen number of feeds is one of the allowed numbers
feeds_found : (number : Option ℤ) → (1 ≤ unwrap_or (option_and_then feeds_of number) USUAL_FEEDS) ×
    (unwrap_or (option_and_then feeds_of number) USUAL_FEEDS ≤ MOST_FEEDS)
feeds_found None = (omega arith, omega arith)
feeds_found (Some n) = of_test (int_le (pos 1) n && int_le n (pos MOST_FEEDS)) refl
  where
    of_size : (k : ℤ) → pos 1 ≤ℤ k → k ≤ℤ pos MOST_FEEDS → (1 ≤ unsigned_abs k) × (unsigned_abs k ≤ MOST_FEEDS)
    of_size (pos k) above below = (omega (arith, ints), omega (arith, ints))
    of_size (negsuc k) above below = absurd (omega (arith, ints))

    of_test : (b : Bool) → (int_le (pos 1) n && int_le n (pos MOST_FEEDS)) ≡ b
        → (1 ≤ unwrap_or (if b then Some (unsigned_abs n) else None) USUAL_FEEDS) ×
        (unwrap_or (if b then Some (unsigned_abs n) else None) USUAL_FEEDS ≤ MOST_FEEDS)
    of_test true e = let within = and_parts (int_le (pos 1) n) (int_le n (pos MOST_FEEDS)) e in of_size n (le_from (pos 1) n within.0)
        (le_from n (pos MOST_FEEDS) within.1)
    of_test false e = (omega arith, omega arith)

module _ (document : Members) (sound : document_fault document ≡ None) where
  found : AllByRecursion (λ finding. finding ≡ None) (document_findings document)
  found = none_from_least (document_findings document) sound

  pub tape_limit_of : (1 ≤ count_at (codes "tape_limit") document) × (count_at (codes "tape_limit") document ≤ MOST_CHANGES)
  tape_limit_of = count_found 1 MOST_CHANGES (get_member (codes "tape_limit") document) found.1.0

  pub queue_of : (LEAST_QUEUE ≤ count_at (codes "queue") document) × (count_at (codes "queue") document ≤ MOST_QUEUE)
  queue_of = count_found LEAST_QUEUE MOST_QUEUE (get_member (codes "queue") document) found.1.1.0

  pub desks_of : (1 ≤ count_at (codes "desks") document) × (count_at (codes "desks") document ≤ MOST_DESKS)
  desks_of = count_found 1 MOST_DESKS (get_member (codes "desks") document) found.1.1.1.0

  pub feeds_within : (1 ≤ feeds_in document) × (feeds_in document ≤ MOST_FEEDS)
  feeds_within = feeds_found (option_and_then as_integer (get_member (codes "feeds") document))

  pub participants_of : (rows : List Data) → rows ≡ rows_at (codes "participant") document
      → rows_fault (choices_in document) section.Participant rows ≡ None
  participants_of rows e = ap (rows_fault (choices_in document) section.Participant) e
      ∙ array_found (choices_in document) section.Participant (get_member (codes "participant") document) found.1.1.1.1.1.1.0

  pub symbols_of : (rows : List Data) → rows ≡ rows_at (codes "symbol") document
      → rows_fault (choices_in document) section.Symbol rows ≡ None
  symbols_of rows e = ap (rows_fault (choices_in document) section.Symbol) e
      ∙ array_found (choices_in document) section.Symbol (get_member (codes "symbol") document) found.1.1.1.1.1.1.1.0
