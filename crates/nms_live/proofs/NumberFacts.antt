-- Lists that grow by one, and numbers that never fall.
use Rattle.std.proofs.Common.{ℕ, ◌≤◌, ◌++◌, List, [], ◌∷◌, arith}
use Rattle.std.specs.List.{AllByRecursion}
use Rattle.nms_live.specs.Lists.{IsRising}

pub all_append : {X : Type 0} (P : X → Type 0) (xs ys : List X) → AllByRecursion P xs → AllByRecursion P ys → AllByRecursion P (xs ++ ys)
all_append P [] ys h k = k
all_append P (x ∷ xs) ys h k = (h.0, all_append P xs ys h.1 k)

pub all_push : {X : Type 0} (P : X → Type 0) (xs : List X) (x : X) → AllByRecursion P xs → P x → AllByRecursion P (xs ++ x ∷ [])
all_push P xs x h p = all_append P xs (x ∷ []) h (p, tt)

pub all_weaker : {X : Type 0} (P Q : X → Type 0) (xs : List X) → ((x : X) → P x → Q x) → AllByRecursion P xs → AllByRecursion Q xs
all_weaker P Q [] step h = tt
all_weaker P Q (x ∷ xs) step h = (step x h.0, all_weaker P Q xs step h.1)

pub all_both : {X : Type 0} (P Q : X → Type 0) (xs : List X) → AllByRecursion P xs → AllByRecursion Q xs
    → AllByRecursion (λ x. P x × Q x) xs
all_both P Q [] h k = tt
all_both P Q (x ∷ xs) h k = ((h.0, k.0), all_both P Q xs h.1 k.1)

pub rising_push : (xs : List ℕ) (n : ℕ) → IsRising xs → AllByRecursion (λ m. m ≤ n) xs → IsRising (xs ++ n ∷ [])
rising_push [] n rising below = (tt, tt)
rising_push (x ∷ xs) n rising below = (all_push (λ m. x ≤ m) xs n rising.0 below.0, rising_push xs n rising.1 below.1)

pub below_all : (xs : List ℕ) (low high : ℕ) → low ≤ high → AllByRecursion (λ m. m ≤ low) xs → AllByRecursion (λ m. m ≤ high) xs
below_all xs low high le h = all_weaker (λ m. m ≤ low) (λ m. m ≤ high) xs (λ m p. omega (arith, p, le)) h
