-- Sums over the same rows in another order, and sums by their parts.
use Rattle.std.proofs.Common.{ℕ, suc, ◌≡◌, ◌+◌, List, [], ◌∷◌, ◌++◌, refl, sym, ◌∙◌, arith}
use Rattle.std.specs.Prelude.{ℤ, pos, negsuc, sum_by, ◌+ℤ◌, ◌-ℤ◌}
use Rattle.std.specs.List.Sorted.{IsPermutation}
use Rattle.std.proofs.lemmas.Int.{ints}
use Rattle.std.proofs.lemmas.List.Sorted.{sum_by-IsPermutation}
use Rattle.std.proofs.lemmas.List.Sums.{sum_by-cons}
use Rattle.nms_rules.specs.Assignment.{amount, total}
use Rattle.nms_rules.specs.Usable.{Usable}

total-sum_by : (part : Usable → ℕ) (rows : List Usable) → total part rows ≡ sum_by part rows
unfolding total
total-sum_by part [] = refl
total-sum_by part (row ∷ rows) = omega (arith, total-sum_by part rows, sum_by-cons part row rows)

pub total_same : (part : Usable → ℕ) (one other : List Usable) → IsPermutation one other → total part other ≡ total part one
total_same part one other same = total-sum_by part other ∙ sum_by-IsPermutation part one other same ∙ sym (total-sum_by part one)

-- a signed number as the difference of two counts
up : ℤ → ℕ
up (pos n) = n
up (negsuc n) = 0

down : ℤ → ℕ
down (pos n) = 0
down (negsuc n) = suc n

up-down : (z : ℤ) → z ≡ pos (up z) -ℤ pos (down z)
unfolding up down
up-down (pos n) = omega (arith, ints)
up-down (negsuc n) = omega (arith, ints)

amount-total : (part : Usable → ℤ) (rows : List Usable) → amount part rows
    ≡ pos (total (λ row. up (part row)) rows) -ℤ pos (total (λ row. down (part row)) rows)
unfolding amount total
amount-total part [] = omega (arith, ints)
amount-total part (row ∷ rows) = omega (arith, ints, amount-total part rows, up-down (part row))

pub amount_same : (part : Usable → ℤ) (one other : List Usable) → IsPermutation one other → amount part other ≡ amount part one
amount_same part one other same =
    omega (
      arith,
      ints,
      amount-total part one,
      amount-total part other,
      total_same (λ row. up (part row)) one other same,
      total_same (λ row. down (part row)) one other same,
    )

-- ---- sums by their parts

pub total_append : (part : Usable → ℕ) (one other : List Usable) → total part (one ++ other) ≡ total part one + total part other
unfolding total
total_append part [] other = omega arith
total_append part (row ∷ one) other = omega (arith, total_append part one other)

pub amount_append : (part : Usable → ℤ) (one other : List Usable) → amount part (one ++ other) ≡ amount part one +ℤ amount part other
unfolding amount
amount_append part [] other = omega (arith, ints)
amount_append part (row ∷ one) other = omega (arith, ints, amount_append part one other)
