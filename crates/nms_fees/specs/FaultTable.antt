-- The table of faults: which of them hold of a text. Several may hold. This product's own rule.
use Rattle.std.specs.Prelude.{codes, ℕ, ℤ, pos, neg_ℤ, Bool, true, false, not, ◌&&◌, ◌||◌, ◌==◌, nat_lt, List, [], ◌∷◌, length, is_none}
use Rattle.std.specs.Int.RustNames.{int_le}
use Rattle.std.specs.Option.{option_map_or}
use Rattle.std.specs.List.{list_any, filter_map}
use Rattle.toml.specs.Data.{Data, Members, get_member, as_str, as_integer, as_table}
use Rattle.toml.specs.Parse.{parse_document}
use Rattle.nms_units.specs.declared.TheConstants.{MOST_LOT}
use Rattle.nms_quote.specs.Roster.{Name, is_part_name, is_symbol_name}
use Rattle.nms_quote.specs.declared.TheConstants.{MOST_CHANGES, MOST_FEEDS, MOST_PARTICIPANTS, MOST_SYMBOLS}
use Rattle.nms_fee_book.specs.Fees.{fee_cap, rate_cap}
use Rattle.nms_fee_book.specs.declared.TheConstants.{MOST_FEE, MOST_RATE}
use Rattle.nms_fee_book.specs.declared.caps.Caps.{Caps}
use Rattle.nms_fees.specs.declared.TheConstants.{LEAST_QUEUE, MOST_DESKS, MOST_QUEUE}
use Rattle.nms_fees.specs.Places.{caps_of, choices_in, has_repeat, is_feed, is_known, keys_in, name_in, rows_in}
use Rattle.nms_fees.specs.Setup.{rows_at}
use Rattle.nms_fees.specs.declared.choices.Choices.{Choices}
use Rattle.nms_fees.specs.declared.level.Level.{Level}
use Rattle.nms_fees.specs.declared.level.Level.TheVariants as level
use Rattle.nms_fees.specs.declared.setup_fault.SetupFault.{SetupFault}
use Rattle.nms_fees.specs.declared.setup_fault.SetupFault.TheVariants as fault

-- the value at a key, if there is one, passes a test
abbrev pub has_at : (Data → Bool) → Members → Name → Bool
has_at test table key = option_map_or test (get_member key table) false

-- C2: a required key is absent: each but `caps` and `feeds`
abbrev pub misses_key : Level → Members → Bool
misses_key level.Top table =
    list_any (λ key. is_none (get_member key table))
    (codes "tape_limit" ∷ codes "queue" ∷ codes "desks" ∷ codes "participant" ∷ codes "symbol" ∷ [])
misses_key level.Participant table = list_any (λ key. is_none (get_member key table))
    (codes "name" ∷ codes "feed" ∷ codes "fee" ∷ codes "rate" ∷ [])
misses_key level.Symbol table = list_any (λ key. is_none (get_member key table)) (codes "name" ∷ codes "lot" ∷ [])

-- C3: another key is there
abbrev pub has_other_key : Level → Members → Bool
has_other_key table_of table = list_any (λ key. not (is_known table_of key)) (keys_in table)

-- C4: a name is not of its form, or is repeated in its array
abbrev pub is_misnamed : (Name → Bool) → Data → Bool
is_misnamed is_name value = option_map_or (λ name. not (is_name name)) (as_str value) false

abbrev pub has_twice : Data → Bool
has_twice value = option_map_or (λ rows. has_repeat (filter_map name_in rows)) (rows_in value) false

abbrev pub has_bad_name : Level → Members → Bool
has_bad_name level.Top table = list_any (has_at has_twice table) (codes "participant" ∷ codes "symbol" ∷ [])
has_bad_name level.Participant table = has_at (is_misnamed is_part_name) table (codes "name")
has_bad_name level.Symbol table = has_at (is_misnamed is_symbol_name) table (codes "name")

-- C5: a value is not of its kind: a number, a text, or an array of tables
abbrev pub is_no_number : Data → Bool
is_no_number value = is_none (as_integer value)

abbrev pub is_no_text : Data → Bool
is_no_text value = is_none (as_str value)

abbrev pub is_no_table : Data → Bool
is_no_table value = is_none (as_table value)

abbrev pub are_no_tables : Data → Bool
are_no_tables value = option_map_or (list_any is_no_table) (rows_in value) true

abbrev pub has_wrong_type : Level → Members → Bool
has_wrong_type level.Top table =
    list_any (has_at is_no_number table) (codes "tape_limit" ∷ codes "queue" ∷ codes "desks" ∷ codes "caps" ∷ codes "feeds" ∷ [])
    || list_any (has_at are_no_tables table) (codes "participant" ∷ codes "symbol" ∷ [])
has_wrong_type level.Participant table =
    list_any (has_at is_no_text table) (codes "name" ∷ codes "feed" ∷ [])
    || list_any (has_at is_no_number table) (codes "fee" ∷ codes "rate" ∷ [])
has_wrong_type level.Symbol table = has_at is_no_text table (codes "name") || has_at is_no_number table (codes "lot")

-- C6: a number is not from `low` to `high`, or the year of no caps, a text names no feed of the document, or an array is empty
abbrev pub is_outside : ℤ → ℤ → Data → Bool
is_outside low high value = option_map_or (λ n. not (int_le low n && int_le n high)) (as_integer value) false

abbrev pub is_no_year : Data → Bool
is_no_year value = option_map_or (λ year. is_none (caps_of year)) (as_integer value) false

abbrev pub is_no_feed : ℕ → Data → Bool
is_no_feed count value = option_map_or (λ text. not (is_feed count text)) (as_str value) false

abbrev pub is_empty : Data → Bool
is_empty value = option_map_or (λ rows. length rows == 0) (rows_in value) false

abbrev pub is_out_of_range : ℕ → Level → Members → Bool
is_out_of_range count level.Top table =
    has_at (is_outside (pos 1) (pos MOST_CHANGES)) table (codes "tape_limit")
    || has_at (is_outside (pos LEAST_QUEUE) (pos MOST_QUEUE)) table (codes "queue")
    || has_at (is_outside (pos 1) (pos MOST_DESKS)) table (codes "desks")
    || has_at is_no_year table (codes "caps")
    || has_at (is_outside (pos 1) (pos MOST_FEEDS)) table (codes "feeds")
    || list_any (has_at is_empty table) (codes "participant" ∷ codes "symbol" ∷ [])
is_out_of_range count level.Participant table =
    has_at (is_no_feed count) table (codes "feed")
    || has_at (is_outside (neg_ℤ (pos MOST_FEE)) (pos MOST_FEE)) table (codes "fee")
    || has_at (is_outside (neg_ℤ (pos MOST_RATE)) (pos MOST_RATE)) table (codes "rate")
is_out_of_range count level.Symbol table = has_at (is_outside (pos 1) (pos MOST_LOT)) table (codes "lot")

-- C7: a fee or a rate is over its cap, by the caps that the document asks for
abbrev pub is_over : ℕ → Data → Bool
is_over cap value = option_map_or (λ n. not (int_le n (pos cap))) (as_integer value) false

abbrev pub has_charge_over_cap : Caps → Level → Members → Bool
has_charge_over_cap keeps level.Participant table =
    has_at (is_over (fee_cap keeps)) table (codes "fee") || has_at (is_over (rate_cap keeps)) table (codes "rate")
has_charge_over_cap keeps _ table = false

-- C8: there are more participants or symbols than allowed
abbrev pub has_more : ℕ → Data → Bool
has_more most value = option_map_or (λ rows. nat_lt most (length rows)) (rows_in value) false

abbrev pub has_too_many : Level → Members → Bool
has_too_many level.Top table = has_at (has_more MOST_PARTICIPANTS) table (codes "participant")
    || has_at (has_more MOST_SYMBOLS) table (codes "symbol")
has_too_many _ table = false

-- whether a fault holds of one table: the document, or one of its two arrays
abbrev pub table_has : Choices → SetupFault → Level → Members → Bool
table_has chosen fault.Missing table_of table = misses_key table_of table
table_has chosen fault.UnknownKey table_of table = has_other_key table_of table
table_has chosen fault.BadName table_of table = has_bad_name table_of table
table_has chosen fault.WrongType table_of table = has_wrong_type table_of table
table_has chosen fault.OutOfRange table_of table = is_out_of_range chosen.feeds table_of table
table_has chosen fault.OverCap table_of table = has_charge_over_cap chosen.caps table_of table
table_has chosen fault.TooMany table_of table = has_too_many table_of table
table_has chosen _ table_of table = false

-- the tables in the array at a key
abbrev pub tables_at : Name → Members → List Members
tables_at key document = filter_map as_table (rows_at key document)

-- whether a fault holds of a document: at its top, or in a table of one of its two arrays
abbrev pub document_has : SetupFault → Members → Bool
document_has other document =
    table_has (choices_in document) other level.Top document
    || list_any (table_has (choices_in document) other level.Participant) (tables_at (codes "participant") document)
    || list_any (table_has (choices_in document) other level.Symbol) (tables_at (codes "symbol") document)

-- whether a fault holds of a text: C1 if it is not a document
abbrev pub text_has : Name → SetupFault → Bool
text_has text fault.NotToml = is_none (parse_document text)
text_has text other = option_map_or (document_has other) (parse_document text) false
