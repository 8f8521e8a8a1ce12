-- Products of signed numbers by counts, and tests of signed numbers.
use Rattle.std.proofs.Common.{ℕ, zero, suc, ◌≡◌, ◌≤◌, ◌+◌, ◌-◌, true, false, ◌⊎◌, inl, inr, ap, ◌∙◌, arith}
use Rattle.std.specs.Prelude.{ℤ, pos, ◌+ℤ◌, ◌-ℤ◌, ◌*ℤ◌, ◌<ℤ◌, ◌≤ℤ◌}
use Rattle.std.specs.Int.{int_max}
use Rattle.std.specs.Int.RustNames.{int_le, int_lt}
use Rattle.std.proofs.lemmas.Int.{ints, clamps, by_lt_z}
use Rattle.std.proofs.Math.IntN.{*ℤ_comm, *ℤ-zero, suc_ℤ-*ℤ}

-- ---- tests

pub lt-true : (a b : ℤ) → int_lt a b ≡ true → a <ℤ b
lt-true a b e = grind (arith, ints)

pub lt-false : (a b : ℤ) → int_lt a b ≡ false → b ≤ℤ a
lt-false a b e = grind (arith, ints)

pub true-lt : (a b : ℤ) → a <ℤ b → int_lt a b ≡ true
true-lt a b e = grind (arith, ints)

pub false-lt : (a b : ℤ) → b ≤ℤ a → int_lt a b ≡ false
false-lt a b e = grind (arith, ints)

pub le-true : (a b : ℤ) → int_le a b ≡ true → a ≤ℤ b
le-true a b e = grind (arith, ints)

pub le-false : (a b : ℤ) → int_le a b ≡ false → b <ℤ a
le-false a b e = grind (arith, ints)

pub cases_int : (a b : ℤ) → (a <ℤ b) ⊎ (b ≤ℤ a)
cases_int a b = by_lt_z a b (λ less. inl less) (λ most. inr most)

-- ---- products

-- one more
pub times-suc : (z : ℤ) (n : ℕ) → z *ℤ pos (suc n) ≡ z *ℤ pos n +ℤ z
times-suc z n = *ℤ_comm z (pos (suc n)) ∙ suc_ℤ-*ℤ (pos n) z ∙ ap (λ x. x +ℤ z) (*ℤ_comm (pos n) z)

-- n and m more
pub times-plus : (z : ℤ) (m n : ℕ) → z *ℤ pos (m + n) ≡ z *ℤ pos m +ℤ z *ℤ pos n
times-plus z m zero = omega (arith, ints, *ℤ-zero z, ap (λ k. z *ℤ pos k) (let e : m + 0 ≡ m = omega arith in e))
times-plus z m (suc n) =
    omega (
      arith,
      ints,
      times-plus z m n,
      times-suc z n,
      times-suc z (m + n),
      ap (λ k. z *ℤ pos k) (let e : m + suc n ≡ suc (m + n) = omega arith in e),
    )

-- a sum of two for each
pub plus-times : (y z : ℤ) (n : ℕ) → (y +ℤ z) *ℤ pos n ≡ y *ℤ pos n +ℤ z *ℤ pos n
plus-times y z zero = omega (arith, ints, *ℤ-zero y, *ℤ-zero z, *ℤ-zero (y +ℤ z))
plus-times y z (suc n) = omega (arith, ints, plus-times y z n, times-suc y n, times-suc z n, times-suc (y +ℤ z) n)

-- more for each
pub times-more : (y z : ℤ) (n : ℕ) → y ≤ℤ z → (y *ℤ pos n) ≤ℤ (z *ℤ pos n)
times-more y z zero less = omega (arith, ints, *ℤ-zero y, *ℤ-zero z)
times-more y z (suc n) less = omega (arith, ints, less, times-more y z n less, times-suc y n, times-suc z n)

pub zero-times : (n : ℕ) → pos 0 *ℤ pos n ≡ pos 0
zero-times zero = *ℤ-zero (pos 0)
zero-times (suc n) = omega (arith, ints, times-suc (pos 0) n, zero-times n)

-- what is not negative, for more
pub times-grow : (z : ℤ) (m n : ℕ) → pos 0 ≤ℤ z → m ≤ n → (z *ℤ pos m) ≤ℤ (z *ℤ pos n)
times-grow z m n some less =
    let rest = times-more (pos 0) z (n - m) some in
    omega (
      arith,
      ints,
      rest,
      zero-times (n - m),
      times-plus z m (n - m),
      ap (λ k. z *ℤ pos k) (let e : m + (n - m) ≡ n = omega (arith, less) in e),
    )

-- a share costs its unit cost, or the marginal less what it saves
pub saves : (marginal cost : ℤ) (given size : ℕ) → given ≤ size
    → (marginal *ℤ pos given) ≤ℤ (cost *ℤ pos given +ℤ int_max (marginal -ℤ cost) (pos 0) *ℤ pos size)
saves marginal cost given size within =
    let saved : ℤ = int_max (marginal -ℤ cost) (pos 0) in
    let some : pos 0 ≤ℤ saved = omega (arith, ints, clamps) in
    let enough : marginal ≤ℤ (cost +ℤ saved) = omega (arith, ints, clamps) in
    omega (
      arith,
      ints,
      times-more marginal (cost +ℤ saved) given enough,
      plus-times cost saved given,
      times-grow saved given size some within,
    )
