-- Bounds by powers of ten.
use Rattle.std.proofs.Common.{ℕ, ◌≡◌, ◌+◌, ◌*◌, ◌-◌, ◌^◌, ◌<◌, ◌≤◌, arith, lit<, subst, sym, ap, ◌∙◌}
use Rattle.std.proofs.Math.Nat.{pow-le-pow_right, mul-lt-mul_of_pos_right, one-le-pow}
use Rattle.std.proofs.lemmas.Nat.{pow-add}

-- fewer digits write a smaller number
pub below_more_digits : (n i j : ℕ) → n < 10 ^ i → i ≤ j → n < 10 ^ j
below_more_digits n i j h le = omega (arith, pow-le-pow_right {n = 10} (lit< tt) {i = i} {j = j} le)

-- one more digit
pub one_more_digit : (n i d : ℕ) → n < 10 ^ i → d < 10 → n * 10 + d < 10 ^ (i + 1)
one_more_digit n i d h small = let e : 10 ^ (i + 1) ≡ 10 ^ i * 10 ^ 1 = pow-add 10 i 1 in omega (arith, e)

-- decimals after a point, in units of the last of `most` of them
pub scaled_below : (n i most : ℕ) → n < 10 ^ i → i ≤ most → n * 10 ^ (most - i) < 10 ^ most
scaled_below n i most h le =
    let scale : n * 10 ^ (most - i) < 10 ^ i * 10 ^ (most - i) =
    mul-lt-mul_of_pos_right {m = n} {n = 10 ^ i} {k = 10 ^ (most - i)} h (one-le-pow (most - i) 10 (lit< tt)) in
    let e : 10 ^ i * 10 ^ (most - i) ≡ 10 ^ most = sym (pow-add 10 i (most - i)) ∙ ap (λ k. 10 ^ k) (omega arith) in
    subst (λ k. n * 10 ^ (most - i) < k) e scale
