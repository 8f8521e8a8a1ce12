-- Places of an array that are written one after another, and the two halves of an amount.
use Rattle.std.proofs.Common.{◌≡◌, ◌<◌, ◌+◌, ◌^◌, ℕ, zero, suc, ℤ, pos, negsuc, List, [], ◌∷◌, Some, length, slice_get, slice_set, ap}
use Rattle.std.proofs.Common.{arith, unsigned_abs}
use Rattle.std.proofs.lemmas.Int.{ints}
use Rattle.std.specs.Int.{int_div_euclid, int_rem_euclid}
use Rattle.nms_calls.specs.PlanNumbers.{cost_said}

-- if the first places are as they should be and the next one is written, then one more is
pub filled-one_more : {X : Type 0} (xs : List X) (k : ℕ) (x : X) (f : ℕ → X) → k < length xs
    → ((i : ℕ) → i < k → slice_get xs i ≡ Some (f i)) → x ≡ f k
    → (i : ℕ) → i < k + 1 → slice_get (slice_set xs k x) i ≡ Some (f i)
filled-one_more [] k x f within before is i below = absurd (omega arith)
filled-one_more (z ∷ xs) zero x f within before is zero below = ap Some is
filled-one_more (z ∷ xs) zero x f within before is (suc i) below = absurd (omega arith)
filled-one_more (z ∷ xs) (suc k) x f within before is zero below = before 0 (omega arith)
filled-one_more (z ∷ xs) (suc k) x f within before is (suc i) below =
    filled-one_more xs k x (λ j. f (suc j)) (omega arith) (λ j h. before (suc j) (omega arith)) is i (omega arith)

-- the halves of an amount say it
pub halves-said : (cost high : ℤ) (low : ℕ) → high ≡ int_div_euclid cost (pos (2 ^ 64))
    → low ≡ unsigned_abs (int_rem_euclid cost (pos (2 ^ 64))) → cost_said high low ≡ cost
halves-said (pos a) high low is_high is_low = omega (arith, ints)
halves-said (negsuc a) high low is_high is_low = omega (arith, ints)
