-- The number of elements that pass a test from the front on, for two tests or for elements that do not fall.
use Rattle.std.proofs.Common.{ℕ, ◌≡◌, ◌<◌, ◌≤◌, Bool, true, false, List, [], ◌∷◌, length}
use Rattle.std.proofs.Common.{get_or, arith, refl, nat_le, nat_lt, slice_index}
use Rattle.std.specs.List.{prefix_len}
use Rattle.std.specs.List.Sorted.{IsNonDecreasing, IsPartitionPoint}
use Rattle.std.proofs.lemmas.Bool.Decides.{nat_tests}
use Rattle.std.proofs.lemmas.List.Sums.{prefix_len_is, prefix_len_passes, prefix_len_stops}
use Rattle.nms_times.specs.Times.{version_at, version_before}

-- a test that passes more passes no fewer from the front on
pub prefix_len-mono : {X : Type 0} (p q : X → Bool) → ((x : X) → p x ≡ true → q x ≡ true) → (xs : List X)
    → prefix_len p xs ≤ prefix_len q xs
prefix_len-mono p q weaker [] = omega arith
prefix_len-mono p q weaker (x ∷ xs) = by_test (p x) refl (prefix_len-mono p q weaker xs)
  where
    by_test : (b : Bool) → p x ≡ b → prefix_len p xs ≤ prefix_len q xs → prefix_len p (x ∷ xs) ≤ prefix_len q (x ∷ xs)
    by_test true passes more = let too : q x ≡ true = weaker x passes in rw (passes, too) (omega arith)
    by_test false fails more = rw fails (omega arith)

-- the point that a bisection finds is that number
pub at_point : {X : Type 0} (p : X → Bool) (xs : List X) (n : ℕ) → n ≤ length xs
    → IsPartitionPoint (λ y. p y ≡ true) (λ y. p y ≡ false) xs n → (d : X) → prefix_len p xs ≡ n
at_point p xs n within point d =
    prefix_len_is p xs n d within (λ k h. point.0 k d (omega arith) h) (λ h. point.1 n d (omega arith) h)

-- what passes from the front on is what is not later, and the rest of times that do not fall is later
pub at_splits : (times : List ℕ) (t place : ℕ) → IsNonDecreasing times → place < length times
    → (place < version_at times t → slice_index times place ≤ t) × (version_at times t ≤ place → t < slice_index times place)
at_splits times t place rise inside = (within, beyond)
  where
    within : place < version_at times t → slice_index times place ≤ t
    within h = let passes = prefix_len_passes (λ x. nat_le x t) times place 0 h in grind (arith, nat_tests)

    beyond : version_at times t ≤ place → t < slice_index times place
    beyond h =
        let end = version_at times t in
        let stops = prefix_len_stops (λ x. nat_le x t) times 0 (omega arith) in
        let later : t < get_or times end 0 = grind (arith, nat_tests) in
        let more : get_or times end 0 ≤ get_or times place 0 = rise end place 0 h inside in
        omega arith

-- what passes from the front on is what is earlier, and the rest is not earlier
pub before_splits : (times : List ℕ) (t place : ℕ) → IsNonDecreasing times → place < length times
    → (place < version_before times t → slice_index times place < t) × (version_before times t ≤ place → t ≤ slice_index times place)
before_splits times t place rise inside = (within, beyond)
  where
    within : place < version_before times t → slice_index times place < t
    within h = let passes = prefix_len_passes (λ x. nat_lt x t) times place 0 h in grind (arith, nat_tests)

    beyond : version_before times t ≤ place → t ≤ slice_index times place
    beyond h =
        let end = version_before times t in
        let stops = prefix_len_stops (λ x. nat_lt x t) times 0 (omega arith) in
        let later : t ≤ get_or times end 0 = grind (arith, nat_tests) in
        let more : get_or times end 0 ≤ get_or times place 0 = rise end place 0 h inside in
        omega arith
