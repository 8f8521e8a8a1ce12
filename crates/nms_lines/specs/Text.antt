-- Records as text. This product's own rule.
use Rattle.std.specs.Prelude.{ℕ, List, [], ◌∷◌, ◌++◌}
use Rattle.std.specs.List.{flat_map, join_with_byte}
use Rattle.nms_lines.specs.Layout.{Record}

-- a record as text: its fields between commas, and a line feed
abbrev pub record_text : Record → List ℕ
record_text fields = join_with_byte 44 fields ++ 10 ∷ []

-- the records as text, one after another
abbrev pub text_of : List Record → List ℕ
text_of records = flat_map record_text records

-- fields, each after a comma
abbrev pub later_fields : Record → List ℕ
later_fields fields = flat_map (λ field. 44 ∷ field) fields
