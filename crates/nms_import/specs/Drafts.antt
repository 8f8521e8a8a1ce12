-- What a mapping's document has at each key. This product's own rule.
use Rattle.std.specs.Prelude.{◌≡◌, ℕ, codes, Bool, false, ◌&&◌, List, [], ◌∷◌, length, map, nat_eq}
use Rattle.std.specs.Prelude.{Option, Some, None, option_map, option_and_then, unwrap_or, if◌then◌else◌}
use Rattle.std.specs.Str.{bytes_eq}
use Rattle.toml.specs.Data.{Data, Items, no_items, item, Members, no_members, member, as_array, as_bool, as_str, as_table, get_member}
use Rattle.toml.specs.View.{table_view}
use Rattle.nms_import.specs.declared.draft.Draft.{Draft}
use Rattle.nms_import.specs.declared.draft.Meant.{Meant}
use Rattle.nms_import.specs.declared.keys.Kind.{Kind}
use Rattle.nms_import.specs.Keys.{Key, all_keys, see}

-- a name that a document has instead of a key, whose table's name is empty for the top
pub record Name : Type 0 where
  pub table : List ℕ
  pub key : List ℕ
  pub written : List ℕ

-- a document, what it is a mapping of, the keys that mappings have, and the names in it that are taken for keys
pub record Doc : Type 0 where
  pub keys : List Key
  pub kind : Kind
  pub members : Members
  pub meant : List Name

abbrev pub name_of : Meant → Name
name_of it = record { table = it.table.now; key = it.key.now; written = it.written.now }

-- a draft without where its texts lie in memory
abbrev pub doc_of : Draft → Doc
doc_of draft =
    record {
      keys = map see draft.keys.now;
      kind = draft.kind;
      members = table_view draft.document.now;
      meant = map name_of draft.meant.now;
    }

-- a document, of which each name is taken as it is
abbrev pub plain : Kind → Members → Doc
plain kind document = record { keys = all_keys; kind = kind; members = document; meant = [] }

-- the name for a key: one that is taken for it, else its own
abbrev pub written_as : List Name → (table key : List ℕ) → List ℕ
written_as [] table key = key
written_as (it ∷ meant) table key =
    if bytes_eq it.table table && bytes_eq it.key key then it.written else written_as meant table key

-- the table at a key
abbrev pub table_in : List ℕ → Members → Option Members
table_in key whole = option_and_then as_table (get_member key whole)

-- the members of a table; the empty name is the document
abbrev pub members_at : Doc → (table : List ℕ) → Option Members
members_at draft table =
    if nat_eq (length table) 0 then Some draft.members
    else table_in (written_as draft.meant [] table) draft.members

-- the value at a key
abbrev pub value_at : Doc → (table key : List ℕ) → Option Data
value_at draft table key = option_and_then (get_member (written_as draft.meant table key)) (members_at draft table)

-- the text at a key, if there is one
abbrev pub text_at : Doc → (table key : List ℕ) → Option (List ℕ)
text_at draft table key = option_and_then as_str (value_at draft table key)

-- whether a key is true
abbrev pub is_flagged : Doc → (table key : List ℕ) → Bool
is_flagged draft table key = unwrap_or (option_and_then as_bool (value_at draft table key)) false

-- the elements of an array
abbrev pub listed : Items → List Data
listed no_items = []
listed (item value rest) = value ∷ listed rest

-- the elements of a value that is an array
abbrev pub items_in : Data → Option (List Data)
items_in value = option_map listed (as_array value)

-- the elements of the array at a key, none if there is no array
abbrev pub items_at : Doc → (table key : List ℕ) → List Data
items_at draft table key = unwrap_or (option_and_then items_in (value_at draft table key)) []

-- the names of a table's members
abbrev pub names_in : Members → List (List ℕ)
names_in no_members = []
names_in (member name value rest) = name ∷ names_in rest
