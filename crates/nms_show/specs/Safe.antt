-- What may reach a terminal: characters that take one column, the end of a line, and this program's own colours. This
-- product's own rule.
use Rattle.std.specs.Prelude.{ℕ, ◌≡◌, ◌++◌, ◌∷◌, ◌||◌, List, [], Bool, true, encode_utf8}
use Rattle.std.specs.Int.{is_in_range}
use Rattle.nms_show.specs.declared.item.Item.{Item}
use Rattle.nms_show.specs.declared.item.Item.TheVariants as item

-- a letter that is written from left to right and joins no other: Latin, Greek, Cyrillic
abbrev pub is_letter : ℕ → Bool
is_letter c = is_in_range 0xa1 0xac c || is_in_range 0xae 0x2ff c || is_in_range 0x391 0x3ce c || is_in_range 0x400 0x481 c

-- printable ASCII, from the space to the tilde, or such a letter
abbrev pub is_shown : ℕ → Bool
is_shown c = is_in_range 32 126 c || is_letter c

-- such characters in UTF-8, and nothing else
pub data IsPrintable : List ℕ → Type 0 where
  no_text : IsPrintable []
  character : (c : ℕ) (rest : List ℕ) → is_shown c ≡ true → IsPrintable rest → IsPrintable (encode_utf8 c ++ rest)

-- printable text, ends of lines, and the escapes that begin bold and red and end a colour; no other byte
pub data IsSafe : List ℕ → Type 0 where
  nothing : IsSafe []
  printed : (first rest : List ℕ) → IsPrintable first → IsSafe rest → IsSafe (first ++ rest)
  line_end : {rest : List ℕ} → IsSafe rest → IsSafe (10 ∷ rest)
  bold : {rest : List ℕ} → IsSafe rest → IsSafe (27 ∷ 91 ∷ 49 ∷ 109 ∷ rest)
  red : {rest : List ℕ} → IsSafe rest → IsSafe (27 ∷ 91 ∷ 51 ∷ 49 ∷ 109 ∷ rest)
  plain : {rest : List ℕ} → IsSafe rest → IsSafe (27 ∷ 91 ∷ 48 ∷ 109 ∷ rest)

-- the text of an item that is the program's own; nothing if it is of a file, or a number
abbrev pub own_text : Item → List ℕ
own_text (item.Text text) = text.now
own_text (item.Strong text) = text.now
own_text (item.Alarm text) = text.now
own_text (item.Bytes bytes) = []
own_text (item.Number number) = []
own_text (item.Price number) = []
own_text (item.Money nanodollars) = []
own_text (item.Flag flag) = []
own_text item.Absent = []
