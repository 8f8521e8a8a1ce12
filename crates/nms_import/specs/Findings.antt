-- All faults of a mapping's document, each with its place: table by table, and of a table in the order of its keys; first those of
-- the keys that are not known. This product's own rule.
use Rattle.std.specs.Prelude.{◌≡◌, ℕ, ◌%◌, ◌==◌, codes, Bool, true, false, not, ◌&&◌, ◌||◌, List, [], ◌∷◌, ◌++◌, length, map, nat_eq}
use Rattle.std.specs.Prelude.{Option, Some, None, is_some, option_and_then, slice_get, if◌then◌else◌}
use Rattle.std.specs.List.{list_any}
use Rattle.std.specs.Option.{option_map_or}
use Rattle.std.specs.Str.{bytes_eq}
use Rattle.toml.specs.Data.{Data, Members, as_array, as_str, get_member}
use Rattle.nms_import.specs.declared.keys.Form.{Form}
use Rattle.nms_import.specs.declared.keys.Form.TheVariants as form
use Rattle.nms_import.specs.declared.keys.TheConstants.{A_LIST, IN_NO_OTHER, ONE_OR_TWO, SAME}
use Rattle.nms_import.specs.declared.map_fault.Finding.{Finding}
use Rattle.nms_import.specs.declared.map_fault.MapFault.{MapFault}
use Rattle.nms_import.specs.declared.map_fault.MapFault.TheVariants as refusal
use Rattle.nms_import.specs.declared.map_fault.Wrong.{Wrong}
use Rattle.nms_import.specs.declared.map_fault.Wrong.TheVariants as wrong
use Rattle.nms_import.specs.Drafts.{Doc, items_at, items_in, members_at, names_in, value_at}
use Rattle.nms_import.specs.Forms.{column_expected, has_named, is_right}
use Rattle.nms_import.specs.Keys.{Key, is_columns, is_key, is_list, is_name, is_of, is_one_column, is_others}

-- a fault: its table and key, the place in the key's list if a word of it is wrong, what is wrong, and what is expected
pub record Fault : Type 0 where
  pub table : List ℕ
  pub key : List ℕ
  pub word : Option ℕ
  pub wrong : Wrong
  pub expected : List ℕ

-- a finding without where its texts lie in memory
abbrev pub fault_of : Finding → Fault
fault_of it =
    record { table = it.table.now; key = it.key.now; word = it.word; wrong = it.wrong; expected = it.expected.now }

-- a fault by its parts
abbrev pub fault : (table key : List ℕ) → (word : Option ℕ) → Wrong → (expected : List ℕ) → Fault
fault table key word wrong expected = record { table = table; key = key; word = word; wrong = wrong; expected = expected }

-- some findings, and then these faults
abbrev pub Adds : (before after : List Finding) → List Fault → Type 0
Adds before after more = map fault_of after ≡ map fault_of before ++ more

-- a value, or a word, that is not what is expected, if something is
abbrev pub refused_at : (table key : List ℕ) → (word : Option ℕ) → (expected : Option (List ℕ)) → List Fault
refused_at table key word None = []
refused_at table key word (Some expected) = fault table key word wrong.BadValue expected ∷ []

-- ---- values

-- the words of a list, if a list can be there and the value is one
abbrev pub pair_or_one : List Data → Option (List Data)
pair_or_one words = if nat_eq (length words) 1 || nat_eq (length words) 2 then Some words else None

abbrev pub list_as : Form → List Data → Option (List Data)
list_as it words = if is_list it then Some words else (if is_columns it then pair_or_one words else None)

abbrev pub list_in : Form → Data → Option (List Data)
list_in it value = option_and_then (list_as it) (items_in value)

-- what is expected at a key
abbrev pub form_expected : Doc → Key → Data → List ℕ
form_expected draft key value =
    if is_columns key.form && is_some (as_array value) then ONE_OR_TWO.now
    else (if is_columns key.form || is_one_column key.form then column_expected draft
    else (if is_list key.form then A_LIST.now else key.expected))

-- what is expected instead of a value that is not right, and no list
abbrev pub value_expected : Doc → Key → Data → Option (List ℕ)
value_expected draft key value = if is_right draft key value then None else Some (form_expected draft key value)

-- ---- lists

-- whether a value is a text
abbrev pub is_text : List ℕ → Data → Bool
is_text text value = option_map_or (λ other. bytes_eq other text) (as_str value) false

-- whether an earlier list of a key's table has a text
abbrev pub is_among_lists : Doc → Key → (text : List ℕ) → List Key → Bool
is_among_lists draft key text [] = false
is_among_lists draft key text (other ∷ others) =
    if bytes_eq other.table key.table then (if bytes_eq other.name key.name then false
    else list_any (is_text text) (items_at draft other.table other.name) || is_among_lists draft key text others)
    else is_among_lists draft key text others

abbrev pub is_earlier : Doc → Key → (text : List ℕ) → Bool
is_earlier draft key text = is_among_lists draft key text draft.keys

-- whether a text of a list is wrong, with these before and after it: a pair has two texts of one byte, a condition is there once
abbrev pub is_wrong : Form → Doc → Key → (before : List Data) → (text : List ℕ) → (after : List Data) → Bool
is_wrong form.Pairs draft key before text after =
    not (nat_eq (length text) 1) || (nat_eq (length after) 0 && nat_eq (length before % 2) 0)
is_wrong form.Conditions draft key before text after = list_any (is_text text) before || is_earlier draft key text
is_wrong form.Letters draft key before text after = not (nat_eq (length text) 1)
is_wrong form.Others draft key before text after = not (nat_eq (length text) 1)
is_wrong _ draft key before text after = false

-- what is expected instead of a text of a list, if it is wrong
abbrev pub text_expected : Doc → Key → (before : List Data) → (text : List ℕ) → (after : List Data) → Option (List ℕ)
text_expected draft key before text after =
    if is_wrong key.form draft key before text after then Some key.expected
    else (if is_others key.form && is_earlier draft key text then Some IN_NO_OTHER.now else None)

-- what is expected instead of a word that is to be a text
abbrev pub listed_expected : Doc → Key → (before : List Data) → (word : Data) → (after : List Data) → Option (List ℕ)
listed_expected draft key before word after =
    option_map_or (λ text. text_expected draft key before text after) (as_str word) (Some A_LIST.now)

-- what is expected instead of a word of a list, if it is wrong: each of two columns is a column
abbrev pub column_wrong : Doc → Key → Data → Option (List ℕ)
column_wrong draft key word = if is_right draft key word then None else Some (column_expected draft)

abbrev pub word_expected : Doc → Key → (before : List Data) → (word : Data) → (after : List Data) → Option (List ℕ)
word_expected draft key before word after =
    if is_columns key.form then column_wrong draft key word else listed_expected draft key before word after

-- the faults of the words that follow these
abbrev pub words_faults : Doc → Key → (before words : List Data) → List Fault
words_faults draft key before [] = []
words_faults draft key before (word ∷ words) =
    refused_at key.table key.name (Some (length before)) (word_expected draft key before word words)
    ++ words_faults draft key (before ++ word ∷ []) words

-- ---- keys

-- the faults of a value at a key, or of the words of its list
abbrev pub value_faults : Doc → Key → Data → List Fault
value_faults draft key value =
    option_map_or (words_faults draft key []) (list_in key.form value)
    (refused_at key.table key.name None (value_expected draft key value))

-- what is expected of a key that is needed
abbrev pub absent_expected : Doc → Key → List ℕ
absent_expected draft key = if nat_eq (length key.expected) 0 then column_expected draft else key.expected

-- whether another key is in place of a column's
abbrev pub is_replaced : Doc → Key → Bool
is_replaced draft key = is_one_column key.form && has_named draft key

-- a key that is needed, and absent, as is any in its place
abbrev pub absent_faults : Doc → Key → List Fault
absent_faults draft key =
    if key.needed && not (is_replaced draft key) then fault key.table key.name None wrong.Missing (absent_expected draft key) ∷ [] else []

-- what is expected instead of a name of a participant: a text; for `*` the text `same`
abbrev pub name_as : Key → (name : List ℕ) → Option (List ℕ) → Option (List ℕ)
name_as key name None = Some key.expected
name_as key name (Some text) =
    if not (bytes_eq text (codes "same")) && bytes_eq name (codes "*") then Some SAME.now else None

abbrev pub name_expected : Key → (name : List ℕ) → Option Data → Option (List ℕ)
name_expected key name value = option_map_or (λ it. name_as key name (as_str it)) value None

-- the faults of the names of participants
abbrev pub names_faults : Key → Members → List (List ℕ) → List Fault
names_faults key whole [] = []
names_faults key whole (name ∷ names) =
    refused_at key.table name None (name_expected key name (get_member name whole)) ++ names_faults key whole names

abbrev pub all_names_faults : Key → Option Members → List Fault
all_names_faults key None = []
all_names_faults key (Some whole) = names_faults key whole (names_in whole)

-- the faults of a key
abbrev pub key_faults : Doc → Key → List Fault
key_faults draft key =
    if is_name key.form then all_names_faults key (members_at draft key.table)
    else option_map_or (value_faults draft key) (value_at draft key.table key.name) (absent_faults draft key)

-- ---- tables

-- the faults of some keys, as far as they are of a table
abbrev pub keys_faults : Doc → (table : List ℕ) → List Key → List Fault
keys_faults draft table [] = []
keys_faults draft table (key ∷ more) =
    (if is_of draft.kind table key then key_faults draft key else []) ++ keys_faults draft table more

-- the names that are no keys of a table
abbrev pub unknown_faults : Doc → (table : List ℕ) → List (List ℕ) → List Fault
unknown_faults draft table [] = []
unknown_faults draft table (name ∷ names) =
    (if is_key draft.keys draft.kind table name then []
    else fault table name None wrong.Unknown [] ∷ [])
    ++ unknown_faults draft table names

abbrev pub unknown_in : Doc → (table : List ℕ) → Option Members → List Fault
unknown_in draft table None = []
unknown_in draft table (Some whole) = unknown_faults draft table (names_in whole)

-- the faults of a table
abbrev pub table_faults : Doc → (table : List ℕ) → List Fault
table_faults draft table =
    unknown_in draft table (members_at draft table) ++ keys_faults draft table draft.keys

-- the faults of the tables that some keys are
abbrev pub tables_faults : Doc → List Key → List Fault
tables_faults draft [] = []
tables_faults draft (key ∷ more) =
    (if is_of draft.kind [] key then table_faults draft key.name else []) ++ tables_faults draft more

-- all faults of a document
abbrev pub faults_of : Doc → List Fault
faults_of draft = table_faults draft [] ++ tables_faults draft draft.keys

-- a fault is the first of these, or out of memory
abbrev pub IsFirst : List Fault → MapFault → Type 0
IsFirst found (refusal.Refused finding) = slice_get found 0 ≡ Some (fault_of finding)
IsFirst found refusal.NoMemory = Unit {0}
IsFirst found _ = ⊥
