-- The table of the keys of a mapping, which is in `src/keys`. This product's own rule.
use Rattle.std.specs.Prelude.{ℕ, codes, Bool, true, false, ◌&&◌, ◌||◌, List, map}
use Rattle.std.specs.Borrow.{Bor}
use Rattle.std.specs.List.{list_any}
use Rattle.std.specs.Str.{bytes_eq}
use Rattle.nms_import.specs.declared.keys.Form.{Form}
use Rattle.nms_import.specs.declared.keys.Form.TheVariants as form
use Rattle.nms_import.specs.declared.keys.Kind.{Kind}
use Rattle.nms_import.specs.declared.keys.Kind.TheVariants as kind
use Rattle.nms_import.specs.declared.keys.TheConstants.{KEYS}

-- what is at a key: names of participants; a column or two; a column; another key's column; texts; letters that claim nothing
abbrev pub is_name : Form → Bool
is_name form.Name = true
is_name _ = false

abbrev pub is_columns : Form → Bool
is_columns form.Columns = true
is_columns _ = false

abbrev pub is_one_column : Form → Bool
is_one_column form.Column = true
is_one_column _ = false

abbrev pub is_instead : Form → Bool
is_instead form.Instead = true
is_instead _ = false

abbrev pub is_list : Form → Bool
is_list form.Words = true
is_list form.Pairs = true
is_list form.Conditions = true
is_list form.Letters = true
is_list form.Others = true
is_list _ = false

abbrev pub is_others : Form → Bool
is_others form.Others = true
is_others _ = false

-- a key: its table, empty for the top; its name; whether mappings of quotes, of sides, of trades and of national bests have it; its form;
-- whether it is needed; the words of a choice, or of a column the keys that may be in its place or in whose place it may be; what is expected,
-- empty for a column
pub record Key : Type 0 where
  pub table : List ℕ
  pub name : List ℕ
  pub kinds : Bool × Bool × Bool × Bool
  pub form : Form
  pub needed : Bool
  pub words : List (List ℕ)
  pub expected : List ℕ

-- a row of the table
abbrev pub Row : Type 0
Row = Bor (List ℕ) × Bor (List ℕ) × (Bool × Bool × Bool × Bool) × (Form × Bool × Bor (List (Bor (List ℕ))) × Bor (List ℕ))

-- the key of a row
abbrev pub see : Row → Key
see row = record {
  table = row.0.now;
  name = row.1.now;
  kinds = row.2;
  form = row.3.0;
  needed = row.3.1;
  words = map (λ word. word.now) row.3.2.now;
  expected = row.3.3.now;
}

-- all keys
unfoldable pub all_keys : List Key
all_keys =
    map
    (λ row. record {
      table = row.0.now;
      name = row.1.now;
      kinds = row.2;
      form = row.3.0;
      needed = row.3.1;
      words = map (λ word. word.now) row.3.2.now;
      expected = row.3.3.now;
    })
    KEYS

-- whether mappings of a kind have a key
abbrev pub has : Kind → Bool × Bool × Bool × Bool → Bool
has kind.Quotes kinds = kinds.0
has kind.Sides kinds = kinds.1
has kind.Trades kinds = kinds.2
has kind.Bests kinds = kinds.3

-- whether a key is of a table of mappings of a kind
abbrev pub is_of : Kind → (table : List ℕ) → Key → Bool
is_of kind table key = has kind key.kinds && bytes_eq key.table table

-- whether a table has a key of a name; `*` is for any
abbrev pub is_key : List Key → Kind → (table name : List ℕ) → Bool
is_key keys kind table name =
    list_any (λ key. is_of kind table key && (bytes_eq key.name name || bytes_eq key.name (codes "*"))) keys
