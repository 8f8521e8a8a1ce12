-- What each place of a document finds agrees with the faults that hold there.
use Rattle.std.proofs.Common.{codes, ◌≡◌, ℕ, ℤ, pos, neg_ℤ, Bool, true, false, not, ◌&&◌, ◌||◌, ◌==◌, nat_le, nat_lt, List, [], ◌∷◌}
use Rattle.std.proofs.Common.{length, map, fold, Option, Some, None, option_and_then}
use Rattle.std.proofs.Common.{unwrap_or, if◌then◌else◌, refl, sym, ap, subst, ◌∙◌, arith}
use Rattle.std.specs.Prelude.{is_none}
use Rattle.std.specs.Int.RustNames.{int_le}
use Rattle.std.specs.List.{list_any, filter_map}
use Rattle.std.specs.Option.{option_map_or}
use Rattle.std.proofs.lemmas.Bool.Decides.{nat_tests}
use Rattle.toml.specs.Data.{Data, Members, table, array, get_member, as_str, as_integer, as_table}
use Rattle.nms_units.specs.declared.TheConstants.{MOST_LOT}
use Rattle.nms_quote.specs.Roster.{Name}
use Rattle.nms_quote.specs.declared.TheConstants.{MOST_CHANGES, MOST_FEEDS}
use Rattle.nms_fee_book.specs.Fees.{fee_cap, rate_cap}
use Rattle.nms_fee_book.specs.declared.TheConstants.{MOST_FEE, MOST_RATE}
use Rattle.nms_fee_book.specs.declared.caps.Caps.{Caps}
use Rattle.nms_fees.specs.declared.TheConstants.{LEAST_QUEUE, MOST_DESKS, MOST_QUEUE}
use Rattle.nms_fees.specs.FaultTable.{are_no_tables, document_has, has_more, has_other_key, has_twice, is_empty, is_no_number}
use Rattle.nms_fees.specs.FaultTable.{is_no_table, is_no_text, is_no_year, is_outside, is_over, table_has, tables_at}
use Rattle.nms_fees.specs.Faults.{least, lesser}
use Rattle.nms_fees.specs.Places.{array_fault, cap_fault, caps_of, choices_in, count_fault, document_fault, feed_fault, has_repeat}
use Rattle.nms_fees.specs.Places.{is_feed, is_name_in, listed, most_of, name_fault}
use Rattle.nms_fees.specs.Places.{name_in, range_fault, row_fault, rows_in, table_findings, year_fault}
use Rattle.nms_fees.specs.declared.choices.Choices.{Choices}
use Rattle.nms_fees.specs.declared.level.Level.{Level}
use Rattle.nms_fees.specs.declared.level.Level.TheVariants as level
use Rattle.nms_fees.specs.declared.section.Section.{Section}
use Rattle.nms_fees.specs.declared.section.Section.TheVariants as section
use Rattle.nms_fees.specs.declared.setup_fault.SetupFault.{SetupFault}
use Rattle.nms_fees.specs.declared.setup_fault.SetupFault.TheVariants as fault
use Rattle.nms_fees.proofs.Agreement.{Agrees, Conditions, and_false, any_on, first_on, gate, join, nothing, on, on_each, same_agrees, when}

or_end : (b : Bool) → (b || false) ≡ b
or_end true = refl
or_end false = refl

or_assoc : (x y z : Bool) → ((x || y) || z) ≡ (x || (y || z))
or_assoc true y z = refl
or_assoc false y z = refl

or_swap : (x y z : Bool) → (x || (y || z)) ≡ (y || (x || z))
or_swap true true z = refl
or_swap true false z = refl
or_swap false y z = refl

-- ---- a required key: the value that is found, if there is one

abbrev at : (Data → Bool) → Option Data → Bool
at test found = option_map_or test found false

as_found : {x : Option SetupFault} (f : SetupFault) (cs : Conditions) → first_on cs ≡ x → Agrees f (any_on f cs) x
as_found {x} f cs e = subst (Agrees f (any_on f cs)) e (on_each f cs)

abbrev number_on : ℤ → ℤ → Option Data → Conditions
number_on low high found = (fault.Missing, is_none found) ∷ (fault.WrongType, at is_no_number found) ∷
    (fault.OutOfRange, at (is_outside low high) found) ∷ []

number_found : (low high : ℤ) (found : Option Data)
    → first_on (number_on low high found) ≡ option_map_or (range_fault low high) found (Some fault.Missing)
number_found low high None = refl
number_found low high (Some value) = of_number (as_integer value)
  where
    of_test : (b : Bool) → lesser None (lesser None (lesser (when (not b) fault.OutOfRange) None)) ≡
        (if b then None else Some fault.OutOfRange)
    of_test true = refl
    of_test false = refl

    of_number : (n : Option ℤ)
        → lesser None (lesser (when (is_none n) fault.WrongType)
        (lesser (when (option_map_or (λ k. not (int_le low k && int_le k high)) n false) fault.OutOfRange) None))
        ≡ option_map_or (λ k. if int_le low k && int_le k high then None else Some fault.OutOfRange) n (Some fault.WrongType)
    of_number None = refl
    of_number (Some k) = of_test (int_le low k && int_le k high)

-- a number that may be absent
abbrev choice_on : ℤ → ℤ → Option Data → Conditions
choice_on low high found = (fault.WrongType, at is_no_number found) ∷ (fault.OutOfRange, at (is_outside low high) found) ∷ []

choice_found : (low high : ℤ) (found : Option Data) → first_on (choice_on low high found) ≡ option_map_or (range_fault low high) found None
choice_found low high None = refl
choice_found low high (Some value) = of_number (as_integer value)
  where
    of_test : (b : Bool) → lesser None (lesser (when (not b) fault.OutOfRange) None) ≡ (if b then None else Some fault.OutOfRange)
    of_test true = refl
    of_test false = refl

    of_number : (n : Option ℤ)
        → lesser (when (is_none n) fault.WrongType)
        (lesser (when (option_map_or (λ k. not (int_le low k && int_le k high)) n false) fault.OutOfRange) None)
        ≡ option_map_or (λ k. if int_le low k && int_le k high then None else Some fault.OutOfRange) n (Some fault.WrongType)
    of_number None = refl
    of_number (Some k) = of_test (int_le low k && int_le k high)

-- a year that may be absent
abbrev year_on : Option Data → Conditions
year_on found = (fault.WrongType, at is_no_number found) ∷ (fault.OutOfRange, at is_no_year found) ∷ []

year_found : (found : Option Data) → first_on (year_on found) ≡ option_map_or year_fault found None
year_found None = refl
year_found (Some value) = of_number (as_integer value)
  where
    of_caps : (known : Option Caps) → lesser None (lesser (when (is_none known) fault.OutOfRange) None) ≡ option_map_or (λ _. None) known
        (Some fault.OutOfRange)
    of_caps None = refl
    of_caps (Some caps) = refl

    of_number : (n : Option ℤ)
        → lesser (when (is_none n) fault.WrongType)
        (lesser (when (option_map_or (λ year. is_none (caps_of year)) n false) fault.OutOfRange) None)
        ≡ option_map_or (λ year. option_map_or (λ _. None) (caps_of year) (Some fault.OutOfRange)) n (Some fault.WrongType)
    of_number None = refl
    of_number (Some year) = of_caps (caps_of year)

abbrev charge_on : ℕ → ℕ → Option Data → Conditions
charge_on most cap found =
    (fault.Missing, is_none found) ∷ (fault.WrongType, at is_no_number found) ∷
    (fault.OutOfRange, at (is_outside (neg_ℤ (pos most)) (pos most)) found) ∷ (fault.OverCap, at (is_over cap) found) ∷ []

charge_found : (most cap : ℕ) (found : Option Data)
    → first_on (charge_on most cap found) ≡ option_map_or (cap_fault most cap) found (Some fault.Missing)
charge_found most cap None = refl
charge_found most cap (Some value) = of_number (as_integer value)
  where
    of_tests : (b c : Bool) → lesser None (lesser None (lesser (when (not b) fault.OutOfRange) (lesser (when (not c) fault.OverCap) None)))
        ≡ (if b then (if c then None else Some fault.OverCap) else Some fault.OutOfRange)
    of_tests true true = refl
    of_tests true false = refl
    of_tests false true = refl
    of_tests false false = refl

    of_number : (n : Option ℤ)
        → lesser None (lesser (when (is_none n) fault.WrongType)
        (lesser (when (option_map_or (λ k. not (int_le (neg_ℤ (pos most)) k && int_le k (pos most))) n false) fault.OutOfRange)
        (lesser (when (option_map_or (λ k. not (int_le k (pos cap))) n false) fault.OverCap) None)))
        ≡ option_map_or (λ k. if int_le (neg_ℤ (pos most)) k && int_le k (pos most) then
        (if int_le k (pos cap) then None else Some fault.OverCap) else Some fault.OutOfRange) n (Some fault.WrongType)
    of_number None = refl
    of_number (Some k) = of_tests (int_le (neg_ℤ (pos most)) k && int_le k (pos most)) (int_le k (pos cap))

-- a text that has to pass a test
abbrev text_on : SetupFault → (Name → Bool) → Option Data → Conditions
text_on f test found =
    (fault.Missing, is_none found) ∷ (fault.WrongType, at is_no_text found) ∷
    (f, at (λ value. option_map_or (λ text. not (test text)) (as_str value) false) found) ∷ []

text_found : (f : SetupFault) (test : Name → Bool) (found : Option Data)
    → first_on (text_on f test found) ≡ option_map_or
    (λ value. option_map_or (λ text. if test text then None else Some f) (as_str value) (Some fault.WrongType)) found
    (Some fault.Missing)
text_found f test None = refl
text_found f test (Some value) = of_text (as_str value)
  where
    of_test : (b : Bool) → lesser None (lesser None (lesser (when (not b) f) None)) ≡ (if b then None else Some f)
    of_test true = refl
    of_test false = refl

    of_text : (t : Option Name)
        → lesser None (lesser (when (is_none t) fault.WrongType) (lesser (when (option_map_or (λ text. not (test text)) t false) f) None))
        ≡ option_map_or (λ text. if test text then None else Some f) t (Some fault.WrongType)
    of_text None = refl
    of_text (Some text) = of_test (test text)

module _ (f : SetupFault) where
  number_agrees : (low high : ℤ) (found : Option Data)
      → Agrees f (any_on f (number_on low high found)) (option_map_or (range_fault low high) found (Some fault.Missing))
  number_agrees low high found = as_found f (number_on low high found) (number_found low high found)

  year_agrees : (found : Option Data) → Agrees f (any_on f (year_on found)) (option_map_or year_fault found None)
  year_agrees found = as_found f (year_on found) (year_found found)

  choice_agrees : (low high : ℤ) (found : Option Data)
      → Agrees f (any_on f (choice_on low high found)) (option_map_or (range_fault low high) found None)
  choice_agrees low high found = as_found f (choice_on low high found) (choice_found low high found)

  charge_agrees : (most cap : ℕ) (found : Option Data)
      → Agrees f (any_on f (charge_on most cap found)) (option_map_or (cap_fault most cap) found (Some fault.Missing))
  charge_agrees most cap found = as_found f (charge_on most cap found) (charge_found most cap found)

  name_agrees : (s : Section) (found : Option Data)
      → Agrees f (any_on f (text_on fault.BadName (is_name_in s) found))
      (option_map_or (name_fault (is_name_in s)) found (Some fault.Missing))
  name_agrees s found = as_found f (text_on fault.BadName (is_name_in s) found) (text_found fault.BadName (is_name_in s) found)

  feed_agrees : (count : ℕ) (found : Option Data)
      → Agrees f (any_on f (text_on fault.OutOfRange (is_feed count) found)) (option_map_or (feed_fault count) found (Some fault.Missing))
  feed_agrees count found = as_found f (text_on fault.OutOfRange (is_feed count) found) (text_found fault.OutOfRange (is_feed count) found)

-- ---- the tables of the two arrays

abbrev level_of : Section → Level
level_of section.Participant = level.Participant
level_of section.Symbol = level.Symbol

module _ (chosen : Choices) (row : Members) where
  abbrev participant_on : SetupFault → Bool
  participant_on f =
      (((gate f fault.UnknownKey (has_other_key level.Participant row)
      || any_on f (text_on fault.BadName (is_name_in section.Participant) (get_member (codes "name") row)))
      || any_on f (text_on fault.OutOfRange (is_feed chosen.feeds) (get_member (codes "feed") row)))
      || any_on f (charge_on MOST_FEE (fee_cap chosen.caps) (get_member (codes "fee") row)))
      || any_on f (charge_on MOST_RATE (rate_cap chosen.caps) (get_member (codes "rate") row))

  participant_table : (f : SetupFault) → participant_on f ≡ table_has chosen f level.Participant row
  participant_table fault.NotToml = refl
  participant_table fault.Missing = simp (or_end, or_assoc) refl
  participant_table fault.UnknownKey = simp (or_end, or_assoc) refl
  participant_table fault.BadName = simp or_end refl
  participant_table fault.WrongType = simp (or_end, or_assoc) refl
  participant_table fault.OutOfRange = simp (or_end, or_assoc) refl
  participant_table fault.OverCap = simp or_end refl
  participant_table fault.TooMany = refl
  participant_table fault.NoMemory = refl

  abbrev symbol_on : SetupFault → Bool
  symbol_on f =
      (gate f fault.UnknownKey (has_other_key level.Symbol row)
      || any_on f (text_on fault.BadName (is_name_in section.Symbol) (get_member (codes "name") row)))
      || any_on f (number_on (pos 1) (pos MOST_LOT) (get_member (codes "lot") row))

  symbol_table : (f : SetupFault) → symbol_on f ≡ table_has chosen f level.Symbol row
  symbol_table fault.NotToml = refl
  symbol_table fault.Missing = simp or_end refl
  symbol_table fault.UnknownKey = simp or_end refl
  symbol_table fault.BadName = simp or_end refl
  symbol_table fault.WrongType = simp or_end refl
  symbol_table fault.OutOfRange = simp or_end refl
  symbol_table fault.OverCap = refl
  symbol_table fault.TooMany = refl
  symbol_table fault.NoMemory = refl

  table_agrees : (f : SetupFault) (s : Section) → Agrees f (table_has chosen f (level_of s) row) (least (table_findings chosen s row))
  table_agrees f section.Participant =
      same_agrees (participant_table f)
      (join (join (join (join
      (on f fault.UnknownKey (has_other_key level.Participant row))
      (name_agrees f section.Participant (get_member (codes "name") row)))
      (feed_agrees f chosen.feeds (get_member (codes "feed") row)))
      (charge_agrees f MOST_FEE (fee_cap chosen.caps) (get_member (codes "fee") row)))
      (charge_agrees f MOST_RATE (rate_cap chosen.caps) (get_member (codes "rate") row)))
  table_agrees f section.Symbol =
      same_agrees (symbol_table f)
      (join (join
      (on f fault.UnknownKey (has_other_key level.Symbol row))
      (name_agrees f section.Symbol (get_member (codes "name") row)))
      (number_agrees f (pos 1) (pos MOST_LOT) (get_member (codes "lot") row)))

-- ---- the elements of one of the two arrays

module _ (chosen : Choices) (f : SetupFault) (s : Section) where
  abbrev row_has : Data → Bool
  row_has row = option_map_or (table_has chosen f (level_of s)) (as_table row) (gate f fault.WrongType true)

  row_agrees : (row : Data) → Agrees f (row_has row) (row_fault chosen s row)
  row_agrees row = of_table (as_table row)
    where
      of_table : (found : Option Members) → Agrees f (option_map_or (table_has chosen f (level_of s)) found (gate f fault.WrongType true))
          (option_map_or (λ members. least (table_findings chosen s members)) found (Some fault.WrongType))
      of_table None = on f fault.WrongType true
      of_table (Some members) = table_agrees chosen members f s

  each_after : (a : Bool) (x : Option SetupFault) (rows : List Data) → Agrees f a x
      → Agrees f (a || list_any row_has rows) (fold lesser x (map (row_fault chosen s) rows))
  each_after a x [] p = same_agrees (sym (or_end a)) p
  each_after a x (row ∷ rows) p = same_agrees (or_assoc a (row_has row) (list_any row_has rows))
      (each_after (a || row_has row) (lesser x (row_fault chosen s row)) rows (join p (row_agrees row)))

  tables_apart : (w : Bool) (rows : List Data)
      → list_any (λ row. option_map_or (table_has chosen f (level_of s)) (as_table row) (w && true)) rows ≡
      ((w && list_any is_no_table rows) || list_any (table_has chosen f (level_of s)) (filter_map as_table rows))
  tables_apart true [] = refl
  tables_apart true (table members ∷ rows) =
      ap (λ rest. table_has chosen f (level_of s) members || rest) (tables_apart true rows)
      ∙ or_swap (table_has chosen f (level_of s) members) (list_any is_no_table rows)
      (list_any (table_has chosen f (level_of s)) (filter_map as_table rows))
  tables_apart true (row ∷ rows) = refl
  tables_apart false [] = refl
  tables_apart false (table members ∷ rows) = ap (λ rest. table_has chosen f (level_of s) members || rest) (tables_apart false rows)
  tables_apart false (row ∷ rows) = tables_apart false rows

  each_agrees : (rows : List Data) → Agrees f (gate f fault.WrongType (list_any is_no_table rows)
      || list_any (table_has chosen f (level_of s)) (filter_map as_table rows)) (least (map (row_fault chosen s) rows))
  each_agrees rows = same_agrees (tables_apart _ rows) (each_after false None rows (nothing f))

  -- ---- one of the two arrays

  abbrev count_on : ℕ → ℕ → Conditions
  count_on most count = (fault.OutOfRange, count == 0) ∷ (fault.TooMany, nat_lt most count) ∷ []

  count_found : (most count : ℕ) → first_on (count_on most count) ≡ count_fault most count
  count_found most count = rw (more most count) (of_tests (count == 0) (nat_le count most))
    where
      more : (m n : ℕ) → nat_lt m n ≡ not (nat_le n m)
      more m n = grind (arith, nat_tests)

      of_tests : (b c : Bool) → lesser (when b fault.OutOfRange) (lesser (when (not c) fault.TooMany) None) ≡
          (if b then Some fault.OutOfRange else (if c then None else Some fault.TooMany))
      of_tests true true = refl
      of_tests true false = refl
      of_tests false true = refl
      of_tests false false = refl

  abbrev array_on : Option Data → Conditions
  array_on found =
      (fault.Missing, is_none found)
      ∷ (fault.OutOfRange, at is_empty found)
      ∷ (fault.TooMany, at (has_more (most_of s)) found)
      ∷ (fault.BadName, at has_twice found)
      ∷ (fault.WrongType, at are_no_tables found)
      ∷ []

  abbrev tables_in : Option Data → List Members
  tables_in found = filter_map as_table (unwrap_or (option_and_then rows_in found) [])

  array_agrees : (found : Option Data) → Agrees f
      (any_on f (array_on found) || list_any (table_has chosen f (level_of s)) (tables_in found))
      (option_map_or (array_fault chosen s) found (Some fault.Missing))
  array_agrees None = join (on_each f (array_on None)) (nothing f)
  array_agrees (Some (array items)) =
      let rows = listed items in
      same_agrees (simp (or_end, or_assoc, and_false) refl)
      (join (join (as_found f (count_on (most_of s) (length rows)) (count_found (most_of s) (length rows)))
      (on f fault.BadName (has_repeat (filter_map name_in rows)))) (each_agrees rows))
  array_agrees (Some value) = join (on_each f (array_on (Some value))) (nothing f)

-- ---- the complete document

module _ (document : Members) where
  abbrev chosen : Choices
  chosen = choices_in document

  abbrev numbers_on : SetupFault → Bool
  numbers_on f =
      ((((gate f fault.UnknownKey (has_other_key level.Top document)
      || any_on f (number_on (pos 1) (pos MOST_CHANGES) (get_member (codes "tape_limit") document)))
      || any_on f (number_on (pos LEAST_QUEUE) (pos MOST_QUEUE) (get_member (codes "queue") document)))
      || any_on f (number_on (pos 1) (pos MOST_DESKS) (get_member (codes "desks") document)))
      || any_on f (year_on (get_member (codes "caps") document)))
      || any_on f (choice_on (pos 1) (pos MOST_FEEDS) (get_member (codes "feeds") document))

  abbrev participants_on : SetupFault → Bool
  participants_on f = any_on f (array_on chosen f section.Participant (get_member (codes "participant") document))

  abbrev symbols_on : SetupFault → Bool
  symbols_on f = any_on f (array_on chosen f section.Symbol (get_member (codes "symbol") document))

  own_table : (f : SetupFault) → ((numbers_on f || participants_on f) || symbols_on f) ≡ table_has chosen f level.Top document
  own_table fault.NotToml = refl
  own_table fault.Missing = simp (or_end, or_assoc) refl
  own_table fault.UnknownKey = simp or_end refl
  own_table fault.BadName = simp or_end refl
  own_table fault.WrongType = simp (or_end, or_assoc) refl
  own_table fault.OutOfRange = simp (or_end, or_assoc) refl
  own_table fault.OverCap = refl
  own_table fault.TooMany = simp or_end refl
  own_table fault.NoMemory = refl

  rows_last : (own first rows second more : Bool)
      → ((own || (first || rows)) || (second || more)) ≡ ((((own || first) || second) || rows) || more)
  rows_last true first rows second more = refl
  rows_last false true rows second more = refl
  rows_last false false true true more = refl
  rows_last false false true false more = refl
  rows_last false false false true more = refl
  rows_last false false false false more = refl

  pub document_agrees : (f : SetupFault) → Agrees f (document_has f document) (document_fault document)
  document_agrees f =
      let participants = list_any (table_has chosen f level.Participant) (tables_at (codes "participant") document) in
      let symbols = list_any (table_has chosen f level.Symbol) (tables_at (codes "symbol") document) in
      same_agrees (rows_last (numbers_on f) (participants_on f) participants (symbols_on f) symbols
      ∙ ap (λ own. (own || participants) || symbols) (own_table f))
      (join (join (join (join (join (join (join
      (on f fault.UnknownKey (has_other_key level.Top document))
      (number_agrees f (pos 1) (pos MOST_CHANGES) (get_member (codes "tape_limit") document)))
      (number_agrees f (pos LEAST_QUEUE) (pos MOST_QUEUE) (get_member (codes "queue") document)))
      (number_agrees f (pos 1) (pos MOST_DESKS) (get_member (codes "desks") document)))
      (year_agrees f (get_member (codes "caps") document)))
      (choice_agrees f (pos 1) (pos MOST_FEEDS) (get_member (codes "feeds") document)))
      (array_agrees chosen f section.Participant (get_member (codes "participant") document)))
      (array_agrees chosen f section.Symbol (get_member (codes "symbol") document)))
