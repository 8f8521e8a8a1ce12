-- The definitions at worked examples.
use Rattle.std.proofs.Common.{◌≡◌, ◌∷◌, [], refl}
use Rattle.std.specs.Prelude.{Some, None, true, false, codes}
use Rattle.nms_explain_toml.specs.Lines.{header_in, names_key, pair_in}
use Rattle.nms_explain_toml.specs.Marking.{column_at, line_begin, line_from, line_number}
use Rattle.nms_explain_toml.specs.Nesting.{after_line, is_outer, outer_nest}

-- the text has two lines, `queue = 9` and `desks = x`; the place is that of the `x`
second_line : line_number (codes "queue = 9\ndesks = x\n") 18 ≡ 2
second_line = refl

begins_at : line_begin (codes "queue = 9\ndesks = x\n") 18 ≡ 10
begins_at = refl

whole_line : line_from (codes "queue = 9\ndesks = x\n") 10 ≡ codes "desks = x"
whole_line = refl

-- the end of a line is of that line
first_line : line_number (codes "queue = 9\ndesks = x\n") 9 ≡ 1
first_line = refl

-- two bytes are one character: an `é` is before the place
one_character : column_at (195 ∷ 169 ∷ 61 ∷ []) 2 ≡ 2
one_character = refl

double_header : header_in (codes " [[ symbol ]] # one") ≡ Some (codes "symbol", true)
double_header = refl

quoted_header : header_in (codes "[\"caps\"]") ≡ Some (codes "caps", false)
quoted_header = refl

no_header : header_in (codes "queue = [1]") ≡ None
no_header = refl

-- the key `lot` at the bytes 1 to 4, its value at 7 to 10
key_and_value : pair_in (codes " lot = 100 # shares") (codes "lot") ≡ Some (record { key = 1; key_end = 4; start = 7; end = 10 })
key_and_value = refl

-- a comma in brackets does not end a value
bracketed : pair_in (codes "a = [1, 2], b") (codes "a") ≡ Some (record { key = 0; key_end = 1; start = 4; end = 10 })
bracketed = refl

other_key : pair_in (codes "lots = 100") (codes "lot") ≡ None
other_key = refl

pointed : names_key (codes "symbol.name") (codes "symbol") ≡ true
pointed = refl

-- a bracket that stays open goes on in the next line; one in a comment, or in a text in quotes, opens nothing
open_bracket : is_outer (after_line outer_nest (codes "symbol = [")) ≡ false
open_bracket = refl

comment : is_outer (after_line outer_nest (codes "lot = 1 # [")) ≡ true
comment = refl

quoted_bracket : is_outer (after_line outer_nest (codes "name = \"[\\\"[\"")) ≡ true
quoted_bracket = refl
