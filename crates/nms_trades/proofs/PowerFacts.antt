-- A bound by powers of ten.
use Rattle.std.proofs.Common.{ℕ, ◌≡◌, ◌*◌, ◌-◌, ◌^◌, ◌<◌, ◌≤◌, arith, lit<, subst, sym, ap, ◌∙◌}
use Rattle.std.proofs.Math.Nat.{mul-lt-mul_of_pos_right, one-le-pow}
use Rattle.std.proofs.lemmas.Nat.{pow-add}

-- decimals after a point, in units of the last of `most` of them
pub scaled_below : (n i most : ℕ) → n < 10 ^ i → i ≤ most → n * 10 ^ (most - i) < 10 ^ most
scaled_below n i most h le =
    let scale : n * 10 ^ (most - i) < 10 ^ i * 10 ^ (most - i) =
    mul-lt-mul_of_pos_right {m = n} {n = 10 ^ i} {k = 10 ^ (most - i)} h (one-le-pow (most - i) 10 (lit< tt)) in
    let e : 10 ^ i * 10 ^ (most - i) ≡ 10 ^ most = sym (pow-add 10 i (most - i)) ∙ ap (λ k. 10 ^ k) (omega arith) in
    subst (λ k. n * 10 ^ (most - i) < k) e scale
