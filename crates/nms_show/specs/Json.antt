-- The form of a text in JSON (RFC 8259, section 7).
use Rattle.std.specs.Prelude.{ℕ, ◌∷◌, ◌++◌, ◌/◌, ◌%◌, ◌==◌, ◌||◌, List, [], flat_map, nat_lt, if◌then◌else◌}
use Rattle.std.specs.Char.{digit_char}

-- a byte between quotation marks. A quotation mark or a backslash comes after a backslash, a control of ASCII as
-- `\u001b`, any other byte as it is
abbrev pub json_byte : ℕ → List ℕ
json_byte b =
    if b == 34 || b == 92 then 92 ∷ b ∷ []
    else if nat_lt b 32 || b == 127 then 92 ∷ 117 ∷ 48 ∷ 48 ∷ digit_char (b / 16) ∷ digit_char (b % 16) ∷ []
    else b ∷ []

-- a text between quotation marks
abbrev pub json_string : List ℕ → List ℕ
json_string text = 34 ∷ flat_map json_byte text ++ 34 ∷ []
