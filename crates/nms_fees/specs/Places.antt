-- The places of a setup's document, and the fault of each. This product's own rule.
use Rattle.std.specs.Prelude.{codes, ◌≡◌, ℕ, ℤ, pos, neg_ℤ, Bool, false, not, ◌&&◌, ◌||◌, ◌==◌, nat_le, nat_lt, find, unsigned_abs, List}
use Rattle.std.specs.Prelude.{[], ◌∷◌, length, map, Option, Some, None, option_map, option_and_then, unwrap_or, if◌then◌else◌}
use Rattle.std.specs.Ordering.{int_eq}
use Rattle.std.specs.Int.RustNames.{int_le}
use Rattle.std.specs.Option.{option_map_or}
use Rattle.std.specs.List.{list_any, filter_map}
use Rattle.std.specs.Str.{bytes_eq}
use Rattle.toml.specs.Data.{Data, Items, no_items, item, Members, no_members, member, get_member, as_str, as_integer, as_array, as_table}
use Rattle.nms_units.specs.declared.TheConstants.{MOST_LOT}
use Rattle.nms_quote.specs.Roster.{Name, is_part_name, is_symbol_name}
use Rattle.nms_quote.specs.Merge.{feeds, place_of}
use Rattle.nms_quote.specs.declared.TheConstants.{MOST_CHANGES, MOST_FEEDS, MOST_PARTICIPANTS, MOST_SYMBOLS}
use Rattle.nms_quote.specs.declared.feed.Feed.{Feed}
use Rattle.nms_quote.specs.declared.feed.Feed.TheVariants as feed
use Rattle.nms_fee_book.specs.Fees.{fee_cap, rate_cap}
use Rattle.nms_fee_book.specs.declared.TheConstants.{MOST_FEE, MOST_RATE}
use Rattle.nms_fee_book.specs.declared.caps.Caps.{Caps}
use Rattle.nms_fee_book.specs.declared.caps.Caps.TheVariants as caps
use Rattle.nms_fees.specs.declared.TheConstants.{LEAST_QUEUE, MOST_DESKS, MOST_QUEUE, USUAL_FEEDS}
use Rattle.nms_fees.specs.declared.choices.Choices.{Choices}
use Rattle.nms_fees.specs.Faults.{least}
use Rattle.nms_fees.specs.declared.setup_fault.SetupFault.{SetupFault}
use Rattle.nms_fees.specs.declared.setup_fault.SetupFault.TheVariants as fault
use Rattle.nms_fees.specs.declared.level.Level.{Level}
use Rattle.nms_fees.specs.declared.level.Level.TheVariants as level
use Rattle.nms_fees.specs.declared.section.Section.{Section}
use Rattle.nms_fees.specs.declared.section.Section.TheVariants as section

-- the fault of a required key: it is absent, or its value has a fault
abbrev pub key_fault : (Data → Option SetupFault) → Name → Members → Option SetupFault
key_fault value_fault key table = option_map_or value_fault (get_member key table) (Some fault.Missing)

-- a number from `low` to `high`
abbrev pub range_fault : ℤ → ℤ → Data → Option SetupFault
range_fault low high value =
    option_map_or (λ n. if int_le low n && int_le n high then None else Some fault.OutOfRange) (as_integer value) (Some fault.WrongType)

-- the caps of a year: that in which the rule was adopted, or amended
abbrev pub caps_of : ℤ → Option Caps
caps_of year = if int_eq year (pos 2005) then Some caps.Of2005 else (if int_eq year (pos 2024) then Some caps.Of2024 else None)

-- a year of caps
abbrev pub year_fault : Data → Option SetupFault
year_fault value =
    option_map_or (λ year. option_map_or (λ _. None) (caps_of year) (Some fault.OutOfRange)) (as_integer value) (Some fault.WrongType)

-- the fault of a key that may be absent
abbrev pub caps_fault : Members → Option SetupFault
caps_fault document = option_map_or year_fault (get_member (codes "caps") document) None

-- the caps that a document asks for: those of 2005 if it names none
abbrev pub caps_in : Members → Caps
caps_in document = unwrap_or (option_and_then caps_of (option_and_then as_integer (get_member (codes "caps") document))) caps.Of2005

-- a number of feeds, if it is allowed
abbrev pub feeds_of : ℤ → Option ℕ
feeds_of number = if int_le (pos 1) number && int_le number (pos MOST_FEEDS) then Some (unsigned_abs number) else None

-- the fault of the other key that may be absent
abbrev pub feeds_fault : Members → Option SetupFault
feeds_fault document = option_map_or (range_fault (pos 1) (pos MOST_FEEDS)) (get_member (codes "feeds") document) None

-- the number of feeds of a document: two if it does not say
abbrev pub feeds_in : Members → ℕ
feeds_in document = unwrap_or (option_and_then feeds_of (option_and_then as_integer (get_member (codes "feeds") document))) USUAL_FEEDS

-- what the keys that may be absent choose
abbrev pub choices_in : Members → Choices
choices_in document = record { caps = caps_in document; feeds = feeds_in document }

-- a number up to `most` either way, and not over its cap
abbrev pub cap_fault : ℕ → ℕ → Data → Option SetupFault
cap_fault most cap value =
    option_map_or (λ n. if int_le (neg_ℤ (pos most)) n && int_le n (pos most) then
    (if int_le n (pos cap) then None else Some fault.OverCap) else Some fault.OutOfRange) (as_integer value) (Some fault.WrongType)

abbrev pub is_name_in : Section → Name → Bool
is_name_in section.Participant name = is_part_name name
is_name_in section.Symbol name = is_symbol_name name

-- a text that has the form of a name
abbrev pub name_fault : (Name → Bool) → Data → Option SetupFault
name_fault is_name value = option_map_or (λ name. if is_name name then None else Some fault.BadName) (as_str value) (Some fault.WrongType)

-- a feed's name: its letter
abbrev pub letter_of : Feed → Name
letter_of feed.A = codes "A"
letter_of feed.B = codes "B"
letter_of feed.C = codes "C"
letter_of feed.D = codes "D"
letter_of feed.E = codes "E"
letter_of feed.F = codes "F"
letter_of feed.G = codes "G"
letter_of feed.H = codes "H"

-- the feed that a text names
abbrev pub feed_named : Name → Option Feed
feed_named text = find (λ feed. bytes_eq text (letter_of feed)) feeds

-- whether a text names one of the first `count` feeds
abbrev pub is_feed : ℕ → Name → Bool
is_feed count text = option_map_or (λ feed. nat_lt (place_of feed) count) (feed_named text) false

-- a text that names a feed
abbrev pub feed_fault : ℕ → Data → Option SetupFault
feed_fault count value =
    option_map_or (λ text. if is_feed count text then None else Some fault.OutOfRange) (as_str value) (Some fault.WrongType)

-- the keys of a table
abbrev pub keys_in : Members → List Name
keys_in no_members = []
keys_in (member key value rest) = key ∷ keys_in rest

abbrev pub is_participant_key : Name → Bool
is_participant_key key = bytes_eq key (codes "name") || bytes_eq key (codes "feed") || bytes_eq key (codes "fee")
    || bytes_eq key (codes "rate")

abbrev pub is_symbol_key : Name → Bool
is_symbol_key key = bytes_eq key (codes "name") || bytes_eq key (codes "lot")

abbrev pub is_top_key : Name → Bool
is_top_key key =
    bytes_eq key (codes "tape_limit") || bytes_eq key (codes "queue") || bytes_eq key (codes "desks") || bytes_eq key (codes "caps")
    || bytes_eq key (codes "feeds")
    || bytes_eq key (codes "participant") || bytes_eq key (codes "symbol")

abbrev pub is_known : Level → Name → Bool
is_known level.Top key = is_top_key key
is_known level.Participant key = is_participant_key key
is_known level.Symbol key = is_symbol_key key

-- a table has a key other than those known there
abbrev pub other_key_fault : Level → Members → Option SetupFault
other_key_fault table_of table = if list_any (λ key. not (is_known table_of key)) (keys_in table) then Some fault.UnknownKey else None

-- what each place finds in a table of the array `participant`, by what the document chooses
abbrev pub participant_findings : Choices → Members → List (Option SetupFault)
participant_findings chosen table =
    other_key_fault level.Participant table
    ∷ key_fault (name_fault (is_name_in section.Participant)) (codes "name") table
    ∷ key_fault (feed_fault chosen.feeds) (codes "feed") table
    ∷ key_fault (cap_fault MOST_FEE (fee_cap chosen.caps)) (codes "fee") table
    ∷ key_fault (cap_fault MOST_RATE (rate_cap chosen.caps)) (codes "rate") table
    ∷ []

-- and in one of the array `symbol`
abbrev pub symbol_findings : Members → List (Option SetupFault)
symbol_findings table =
    other_key_fault level.Symbol table
    ∷ key_fault (name_fault (is_name_in section.Symbol)) (codes "name") table
    ∷ key_fault (range_fault (pos 1) (pos MOST_LOT)) (codes "lot") table
    ∷ []

abbrev pub table_findings : Choices → Section → Members → List (Option SetupFault)
table_findings chosen section.Participant table = participant_findings chosen table
table_findings chosen section.Symbol table = symbol_findings table

-- an element of one of the two arrays, which must be a table
abbrev pub row_fault : Choices → Section → Data → Option SetupFault
row_fault chosen rows_of row = option_map_or (λ table. least (table_findings chosen rows_of table)) (as_table row) (Some fault.WrongType)

-- the items of an array
abbrev pub listed : Items → List Data
listed no_items = []
listed (item value rest) = value ∷ listed rest

-- the elements of a value that is an array
abbrev pub rows_in : Data → Option (List Data)
rows_in value = option_map listed (as_array value)

-- the name in an element of an array, if it is a text
abbrev pub name_in : Data → Option Name
name_in row = option_and_then as_str (option_and_then (get_member (codes "name")) (as_table row))

-- whether a text is repeated
abbrev pub has_repeat : List Name → Bool
has_repeat [] = false
has_repeat (name ∷ names) = list_any (λ other. bytes_eq other name) names || has_repeat names

-- a name is repeated in an array
abbrev pub repeat_fault : List Data → Option SetupFault
repeat_fault rows = if has_repeat (filter_map name_in rows) then Some fault.BadName else None

abbrev pub most_of : Section → ℕ
most_of section.Participant = MOST_PARTICIPANTS
most_of section.Symbol = MOST_SYMBOLS

-- an array is empty, or has too many elements
abbrev pub count_fault : ℕ → ℕ → Option SetupFault
count_fault most count = if count == 0 then Some fault.OutOfRange else (if nat_le count most then None else Some fault.TooMany)

-- what is found in the elements of one of the two arrays
abbrev pub rows_findings : Choices → Section → List Data → List (Option SetupFault)
rows_findings chosen rows_of rows =
    count_fault (most_of rows_of) (length rows) ∷ repeat_fault rows ∷ least (map (row_fault chosen rows_of) rows) ∷ []

abbrev pub rows_fault : Choices → Section → List Data → Option SetupFault
rows_fault chosen rows_of rows = least (rows_findings chosen rows_of rows)

-- no fault is found in an element, or in all of them: for some choices, if these are not given
abbrev pub IsSound : Section → Data → Type 0
IsSound rows_of row = (chosen : Choices) × (row_fault chosen rows_of row ≡ None)

abbrev pub AreSound : Section → List Data → Type 0
AreSound rows_of rows = (chosen : Choices) × (rows_fault chosen rows_of rows ≡ None)

-- one of the two arrays
abbrev pub array_fault : Choices → Section → Data → Option SetupFault
array_fault chosen rows_of value = option_map_or (rows_fault chosen rows_of) (rows_in value) (Some fault.WrongType)

-- what is found in a complete document
abbrev pub document_findings : Members → List (Option SetupFault)
document_findings document =
    other_key_fault level.Top document
    ∷ key_fault (range_fault (pos 1) (pos MOST_CHANGES)) (codes "tape_limit") document
    ∷ key_fault (range_fault (pos LEAST_QUEUE) (pos MOST_QUEUE)) (codes "queue") document
    ∷ key_fault (range_fault (pos 1) (pos MOST_DESKS)) (codes "desks") document
    ∷ caps_fault document
    ∷ feeds_fault document
    ∷ key_fault (array_fault (choices_in document) section.Participant) (codes "participant") document
    ∷ key_fault (array_fault (choices_in document) section.Symbol) (codes "symbol") document
    ∷ []

-- the fault of least number anywhere in a document
abbrev pub document_fault : Members → Option SetupFault
document_fault document = least (document_findings document)
