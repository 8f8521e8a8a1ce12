-- Numbers written in decimal digits, and the point between dollars and their parts. This product's own
-- rule.
use Rattle.std.specs.Prelude.{ℕ, Bool, ◌+◌, ◌&&◌, ◌==◌, List, length, take, drop, position, nat_lt, nat_le, Option, Some, None}
use Rattle.std.specs.Prelude.{if◌then◌else◌}
use Rattle.std.specs.Char.{is_ascii_digit}
use Rattle.std.specs.List.{list_all}
use Rattle.std.specs.Option.{option_map_or}
use Rattle.std.specs.Str.Parse.{digits_value}

-- one to `most` digits, and nothing else
abbrev pub is_digits : ℕ → List ℕ → Bool
is_digits most text = nat_lt 0 (length text) && nat_le (length text) most && list_all is_ascii_digit text

-- the number that such a text writes
abbrev pub number_in : ℕ → List ℕ → Option ℕ
number_in most text = if is_digits most text then Some (digits_value 10 text) else None

-- the place of the first point
abbrev pub point_in : List ℕ → Option ℕ
point_in text = position (λ c. c == 46) text

-- what is read of the texts on both sides of the first point; if there is no point, `whole`
abbrev pub by_point : (List ℕ → List ℕ → Option ℕ) → List ℕ → Option ℕ → Option ℕ
by_point read text whole = option_map_or (λ point. read (take point text) (drop (point + 1) text)) (point_in text) whole
