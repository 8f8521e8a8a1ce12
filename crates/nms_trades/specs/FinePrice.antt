-- Prices of up to six decimals, as trades at midpoints and averages have them, in 1/1,000,000 dollar. This product's own rule.
use Rattle.std.specs.Prelude.{ℕ, ◌*◌, ◌-◌, ◌/◌, ◌^◌, List, [], ◌∷◌, ◌++◌, length, Option, option_map}
use Rattle.std.specs.Fmt.{decimal}
use Rattle.nms_units.specs.Digits.{by_point, number_in}
use Rattle.nms_units.specs.Price.{both, digit_at}

-- whole dollars: 1 to 7 digits
abbrev pub fine_dollars : List ℕ → Option ℕ
fine_dollars text = option_map (λ n. n * 1000000) (number_in 7 text)

-- 1 to 6 digits after the point
abbrev pub fine_decimals : List ℕ → Option ℕ
fine_decimals text = option_map (λ n. n * 10 ^ (6 - length text)) (number_in 6 text)

-- the digits on both sides of a point
abbrev pub fine_both : List ℕ → List ℕ → Option ℕ
fine_both whole behind = both (fine_dollars whole) (fine_decimals behind)

-- what a text of the form writes: 1 to 7 digits, and at most a point with 1 to 6 digits
abbrev pub fine_number : List ℕ → Option ℕ
fine_number text = by_point fine_both text (fine_dollars text)

-- as text: no leading zeros but one before the point, and six decimals
abbrev pub fine_text : ℕ → List ℕ
fine_text n =
    decimal (n / 1000000) ++ 46 ∷ digit_at 100000 n ∷ digit_at 10000 n ∷ digit_at 1000 n ∷ digit_at 100 n ∷ digit_at 10 n ∷ digit_at 1 n
    ∷ []
