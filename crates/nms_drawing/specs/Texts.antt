-- How a page spells lists of texts as JSON (RFC 8259), and how no byte of its data is `<`. This product's own rule.
use Rattle.std.specs.Prelude.{ℕ, ◌+◌, ◌==◌, Bool, List, [], ◌∷◌, ◌++◌, codes, not, if◌then◌else◌}
use Rattle.std.specs.List.{flat_map}
use Rattle.nms_show.specs.Json.{json_string}

-- a comma before each text but the first
abbrev pub comma_at : ℕ → List ℕ
comma_at place = if place == 0 then [] else 44 ∷ []

abbrev pub texts_from : ℕ → List (List ℕ) → List ℕ
texts_from place [] = []
texts_from place (text ∷ rest) = comma_at place ++ json_string text ++ texts_from (place + 1) rest

-- a list of texts as a member of a JSON object
unfoldable pub texts_member : (name : List ℕ) → List (List ℕ) → List ℕ
texts_member name texts = codes ",\"" ++ name ++ codes "\":[" ++ texts_from 0 texts ++ codes "]"

-- a byte of JSON in which no byte is `<`
abbrev pub data_byte : ℕ → List ℕ
data_byte byte = if byte == 60 then codes "\\u003c" else byte ∷ []

abbrev pub data_text : (json : List ℕ) → List ℕ
data_text json = flat_map data_byte json

abbrev pub is_no_less : ℕ → Bool
is_no_less byte = not (byte == 60)
