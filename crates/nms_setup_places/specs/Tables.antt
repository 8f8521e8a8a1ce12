-- The tables of a setup's document, and the keys that may be in each. This product's own rule.
use Rattle.std.specs.Prelude.{codes, ℕ, Bool, true, false, List, [], ◌∷◌}
use Rattle.nms_quote.specs.Roster.{Name, is_part_name, is_symbol_name}
use Rattle.nms_quote.specs.declared.TheConstants.{MOST_PARTICIPANTS, MOST_SYMBOLS}
use Rattle.nms_fees.specs.Places.{is_participant_key, is_symbol_key, is_top_key}
use Rattle.nms_setup_places.specs.declared.known_key.KnownKey.{KnownKey}
use Rattle.nms_setup_places.specs.declared.known_key.KnownKey.TheVariants as key
use Rattle.nms_setup_places.specs.declared.setup_table.SetupArray.{SetupArray}
use Rattle.nms_setup_places.specs.declared.setup_table.SetupArray.TheVariants as array
use Rattle.nms_setup_places.specs.declared.setup_table.SetupTable.{SetupTable}
use Rattle.nms_setup_places.specs.declared.setup_table.SetupTable.TheVariants as of

-- a key as it is written
abbrev pub text_of : KnownKey → Name
text_of key.TapeLimit = codes "tape_limit"
text_of key.Queue = codes "queue"
text_of key.Desks = codes "desks"
text_of key.Caps = codes "caps"
text_of key.Feeds = codes "feeds"
text_of key.Participant = codes "participant"
text_of key.Symbol = codes "symbol"
text_of key.Name = codes "name"
text_of key.Feed = codes "feed"
text_of key.Fee = codes "fee"
text_of key.Rate = codes "rate"
text_of key.Lot = codes "lot"

-- the keys that may be absent
abbrev pub is_optional : KnownKey → Bool
is_optional key.Caps = true
is_optional key.Feeds = true
is_optional _ = false

-- the keys that may be in a table
abbrev pub keys_of : SetupTable → List KnownKey
keys_of of.Top = key.TapeLimit ∷ key.Queue ∷ key.Desks ∷ key.Caps ∷ key.Feeds ∷ key.Participant ∷ key.Symbol ∷ []
keys_of (of.Participant place) = key.Name ∷ key.Feed ∷ key.Fee ∷ key.Rate ∷ []
keys_of (of.Symbol place) = key.Name ∷ key.Lot ∷ []

-- whether a text is one of them
abbrev pub is_key_of : SetupTable → Name → Bool
is_key_of of.Top key = is_top_key key
is_key_of (of.Participant place) key = is_participant_key key
is_key_of (of.Symbol place) key = is_symbol_key key

-- whether a text has the form of a name in an array
abbrev pub is_name_of : SetupArray → Name → Bool
is_name_of array.Participant name = is_part_name name
is_name_of array.Symbol name = is_symbol_name name

-- the most elements of an array
abbrev pub most_in : SetupArray → ℕ
most_in array.Participant = MOST_PARTICIPANTS
most_in array.Symbol = MOST_SYMBOLS

-- the key of an array
abbrev pub array_key : SetupArray → KnownKey
array_key array.Participant = key.Participant
array_key array.Symbol = key.Symbol

-- the element of an array after n others
abbrev pub row_table : SetupArray → ℕ → SetupTable
row_table array.Participant place = of.Participant place
row_table array.Symbol place = of.Symbol place

-- the array that a table with a name is of
abbrev pub array_of : SetupTable → SetupArray
array_of (of.Symbol place) = array.Symbol
array_of _ = array.Participant
