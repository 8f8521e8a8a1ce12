-- Prices in 1/10,000 dollar. This product's own rule: any price in range is accepted.
use Rattle.std.specs.Prelude.{ℕ, ◌+◌, ◌*◌, ◌-◌, ◌/◌, ◌%◌, ◌^◌, List, [], ◌∷◌, ◌++◌, length, ◌==◌, Option, Some, None, option_map, Result}
use Rattle.std.specs.Prelude.{Ok, Err, if◌then◌else◌}
use Rattle.std.specs.Fmt.{decimal}
use Rattle.nms_units.specs.Digits.{by_point, number_in}
use Rattle.nms_units.specs.declared.unit_fault.UnitFault.{UnitFault}
use Rattle.nms_units.specs.declared.unit_fault.UnitFault.TheVariants as fault

-- whole dollars: 1 to 7 digits
abbrev pub dollars : List ℕ → Option ℕ
dollars text = option_map (λ n. n * 10000) (number_in 7 text)

-- 1 to 4 digits after the point
abbrev pub decimals : List ℕ → Option ℕ
decimals text = option_map (λ n. n * 10 ^ (4 - length text)) (number_in 4 text)

-- the sum of two numbers, if both are there
abbrev pub both : Option ℕ → Option ℕ → Option ℕ
both None n = None
both (Some m) None = None
both (Some m) (Some n) = Some (m + n)

-- the digits on both sides of a point
abbrev pub dollars_and_decimals : List ℕ → List ℕ → Option ℕ
dollars_and_decimals whole behind = both (dollars whole) (decimals behind)

-- what a text of the form writes, in 1/10,000 dollar: 1 to 7 digits, and at most a point with 1 to 4 digits
abbrev pub price_number : List ℕ → Option ℕ
price_number text = by_point dollars_and_decimals text (dollars text)

-- a price above zero, or why there is none
abbrev pub above_zero : Option ℕ → Result ℕ UnitFault
above_zero None = Err fault.BadPrice
above_zero (Some n) = if n == 0 then Err fault.ZeroPrice else Ok n

-- the price that a text writes, or why it is refused
abbrev pub price_reading : List ℕ → Result ℕ UnitFault
price_reading text = above_zero (price_number text)

-- the digit of n at the place that `unit` names
abbrev pub digit_at : ℕ → ℕ → ℕ
digit_at unit n = 48 + n / unit % 10

-- a price as text: no leading zeros except one before the point, and four decimals
abbrev pub price_text : ℕ → List ℕ
price_text n = decimal (n / 10000) ++ 46 ∷ digit_at 1000 n ∷ digit_at 100 n ∷ digit_at 10 n ∷ digit_at 1 n ∷ []
