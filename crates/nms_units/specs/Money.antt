-- Money in whole nanodollars (10^-9 dollar). This product's own rule.
use Rattle.std.specs.Prelude.{ℕ, suc, ℤ, pos, negsuc, neg_ℤ, ◌*◌, ◌/◌, ◌==◌, List, [], ◌∷◌, ◌++◌, length, Option, Some, None, option_map}
use Rattle.std.specs.Prelude.{Result, Ok, Err, if◌then◌else◌}
use Rattle.std.specs.Fmt.{decimal}
use Rattle.nms_units.specs.Digits.{by_point, number_in}
use Rattle.nms_units.specs.Price.{both, digit_at}
use Rattle.nms_units.specs.declared.unit_fault.UnitFault.{UnitFault}
use Rattle.nms_units.specs.declared.unit_fault.UnitFault.TheVariants as fault

-- whole dollars: 1 to 20 digits
abbrev pub whole_dollars : List ℕ → Option ℕ
whole_dollars text = option_map (λ n. n * 1000000000) (number_in 20 text)

-- exactly nine digits after the point
abbrev pub nine_decimals : List ℕ → Option ℕ
nine_decimals text = if length text == 9 then number_in 9 text else None

-- the digits on both sides of a point
abbrev pub nanodollars : List ℕ → List ℕ → Option ℕ
nanodollars whole behind = both (whole_dollars whole) (nine_decimals behind)

-- an amount without a sign: 1 to 20 digits, a point and nine digits
abbrev pub amount_number : List ℕ → Option ℕ
amount_number text = by_point nanodollars text None

-- what a text of the form writes: an amount, or a minus and an amount
abbrev pub money_number : List ℕ → Option ℤ
money_number [] = None
money_number (c ∷ rest) =
    if c == 45 then option_map (λ n. neg_ℤ (pos n)) (amount_number rest) else option_map (λ n. pos n) (amount_number (c ∷ rest))

-- the money that was read, or the fault
abbrev pub or_bad_money : Option ℤ → Result ℤ UnitFault
or_bad_money None = Err fault.BadMoney
or_bad_money (Some z) = Ok z

-- the money that a text writes, or why it is refused
abbrev pub money_reading : List ℕ → Result ℤ UnitFault
money_reading text = or_bad_money (money_number text)

-- the last three digits of n, from the place that `unit` names
abbrev pub three_digits : ℕ → List ℕ
three_digits n = digit_at 100 n ∷ digit_at 10 n ∷ digit_at 1 n ∷ []

-- an amount as text: no leading zeros except one before the point, and nine decimals
abbrev pub amount_text : ℕ → List ℕ
amount_text n = decimal (n / 1000000000) ++ 46 ∷ three_digits (n / 1000000) ++ three_digits (n / 1000) ++ three_digits n

-- money as text: a minus if it is negative, and the amount
abbrev pub money_text : ℤ → List ℕ
money_text (pos n) = amount_text n
money_text (negsuc n) = 45 ∷ amount_text (suc n)
