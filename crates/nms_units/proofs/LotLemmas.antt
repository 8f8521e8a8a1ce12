-- Sizes rounded down to whole lots by a multiplication.
use Rattle.std.proofs.Common.{ℕ, ◌≡◌, ◌+◌, ◌-◌, ◌*◌, ◌/◌, ◌%◌, ◌<◌, ◌≤◌, arith, ap, ◌∙◌}
use Rattle.std.proofs.Math.Nat.{mod-add-div, mod-lt, mul-le-mul_left, mul-le-mul_right}
use Rattle.std.proofs.lemmas.Nat.{div-mul-add}
use Rattle.nms_units.specs.Lot.{reciprocal_of}

-- the product in parts: `lot` times `part` and one more than `rest` are `whole`, and `q` lots and `s` shares are `n`
product : (whole lot part rest n q s : ℕ) → whole ≡ part * lot + (rest + 1) → n ≡ q * lot + s
    → part * (n + 1) + q * (rest + 1) ≡ q * whole + part * (s + 1)
product whole lot part rest n q s is_whole is_n = rw (is_whole, is_n) (omega arith)

-- the product is above `q` times `whole` by less than `whole`
quotient : (whole lot part rest n q s : ℕ) → whole ≡ part * lot + (rest + 1) → n ≡ q * lot + s → s + 1 ≤ lot
    → rest + 1 ≤ lot → n ≤ part → part * (n + 1) / whole ≡ q
quotient whole lot part rest n q s is_whole is_n s_less rest_less wide =
    let sums = product whole lot part rest n q s is_whole is_n in
    let some : q * (rest + 1) ≤ q * lot = mul-le-mul_left q rest_less in
    let more : part * 1 ≤ part * (s + 1) = mul-le-mul_left part (omega arith) in
    let most : part * (s + 1) ≤ part * lot = mul-le-mul_left part s_less in
    let covered : q * (rest + 1) ≤ part * (s + 1) = omega (arith, some, more) in
    let is : part * (n + 1) ≡ q * whole + (part * (s + 1) - q * (rest + 1)) = omega (arith, sums, covered) in
    ap (λ k. k / whole) is ∙ div-mul-add q whole (part * (s + 1) - q * (rest + 1)) (omega (arith, most))

-- the whole lots of some shares, by the lot's reciprocal
pub lots_by_reciprocal : (lot n : ℕ) → 1 ≤ lot → lot ≤ 1000 → n ≤ 999999999
    → reciprocal_of lot * (n + 1) / 18446744073709551616 ≡ n / lot
lots_by_reciprocal lot n low high few =
    let whole : 18446744073709551615 % lot + lot * reciprocal_of lot ≡ 18446744073709551615 = mod-add-div 18446744073709551615 lot in
    let rest : 18446744073709551615 % lot < lot = mod-lt 18446744073709551615 low in
    let lots : n % lot + lot * (n / lot) ≡ n = mod-add-div n lot in
    let odd : n % lot < lot = mod-lt n low in
    let wide : lot * reciprocal_of lot ≤ 1000 * reciprocal_of lot = mul-le-mul_right (reciprocal_of lot) high in
    quotient 18446744073709551616 lot (reciprocal_of lot) (18446744073709551615 % lot) n (n / lot) (n % lot)
    (omega (arith, whole)) (omega (arith, lots)) (omega (arith, odd)) (omega (arith, rest)) (omega (arith, whole, rest, wide))
