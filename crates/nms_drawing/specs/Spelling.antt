-- How a page spells a table of whole numbers: a text for each column. This product's own rule.
use Rattle.std.specs.Prelude.{ℕ, zero, suc, ◌+◌, ◌-◌, ◌*◌, ◌/◌, ◌%◌, ◌^◌, ◌==◌, Bool, List, [], ◌∷◌, ◌++◌, codes, length, map}
use Rattle.std.specs.Prelude.{nat_le, nat_lt, if◌then◌else◌}
use Rattle.std.specs.Fmt.{decimal}
use Rattle.std.specs.List.{list_all, slice_index_or}

-- the characters of the digits 0 to 63, those of base 64
abbrev pub glyphs : List ℕ
glyphs = codes "ABCDEFGHIJKLMNOPQRSTUVWXYZabcdefghijklmnopqrstuvwxyz0123456789+/"

abbrev pub glyph : ℕ → ℕ
glyph digit = slice_index_or glyphs digit 0

-- at most n digits of a number to the base 32, the lowest first; 32 is added to a digit after which another one follows
unfoldable pub digits_within : (n number : ℕ) → List ℕ
digits_within zero number = []
digits_within (suc n) number =
    if nat_lt number 32 then glyph number ∷ [] else glyph (number % 32 + 32) ∷ digits_within n (number / 32)

-- thirteen digits are enough for a difference: twice a number of 64 bits, and one more
abbrev pub number_text : ℕ → List ℕ
number_text number = digits_within 13 number

-- the difference of a value to the one before it as a number: twice a rise, and twice a fall and one
abbrev pub step_number : (was value : ℕ) → ℕ
step_number was value = if nat_le was value then (value - was) * 2 else (was - value) * 2 + 1

-- the differences between values and those before them, in units
abbrev pub steps_text : (unit was : ℕ) → List ℕ → List ℕ
steps_text unit was [] = []
steps_text unit was (value ∷ rest) = number_text (step_number (was / unit) (value / unit)) ++ steps_text unit value rest

abbrev pub is_multiple : (unit value : ℕ) → Bool
is_multiple unit value = value % unit == 0

-- the greatest power of ten, at most the given one, of which all values are multiples
abbrev pub exponent_within : ℕ → List ℕ → ℕ
exponent_within zero values = 0
exponent_within (suc exponent) values =
    if list_all (is_multiple (10 ^ suc exponent)) values then suc exponent else exponent_within exponent values

-- the text of a column: the digit of its unit, then the differences
abbrev pub column_text : List ℕ → List ℕ
column_text values = (48 + exponent_within 9 values) ∷ steps_text (10 ^ exponent_within 9 values) 0 values

-- the values at a place of each row
abbrev pub column_at : ℕ → List (List ℕ) → List ℕ
column_at place rows = map (λ row. slice_index_or row place 0) rows

-- the member of a column; a column whose values are all 0 is left out
abbrev pub column_member : (name values : List ℕ) → List ℕ
column_member name values =
    if list_all (λ value. value == 0) values then [] else codes ",\"" ++ name ++ codes "\":\"" ++ column_text values ++ codes "\""

abbrev pub columns_from : ℕ → (names rows : List (List ℕ)) → List ℕ
columns_from place [] rows = []
columns_from place (name ∷ names) rows = column_member name (column_at place rows) ++ columns_from (place + 1) names rows

-- a table as a member of a JSON object: the number of its rows, then its columns
unfoldable pub table_text : (name : List ℕ) → (names rows : List (List ℕ)) → List ℕ
table_text name names rows =
    codes ",\"" ++ name ++ codes "\":{\"n\":" ++ decimal (length rows) ++ columns_from 0 names rows ++ codes "}"
