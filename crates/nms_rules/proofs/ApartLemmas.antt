-- Elements with numbers that differ: rows by participant place, and legs of which no two go to one.
use Rattle.std.proofs.Common.{ℕ, suc, ◌≡◌, ◌<◌, Bool, true, false, List, [], ◌∷◌, map, ◌⊎◌, inl, inr, refl, ap, sym, ◌∙◌, arith, add-one}
use Rattle.std.proofs.Common.{nat_eq}
use Rattle.std.specs.List.{filter, AllByRecursion, IsDistinct}
use Rattle.std.specs.List.Sorted.{IsStrictlyIncreasing}
use Rattle.std.proofs.lemmas.Bool.{cases_Bool, eqb-false, ne_eqb}
use Rattle.std.proofs.lemmas.Map.Keys.{IsDistinct-cons, IsDistinct-head, IsDistinct-tail}
use Rattle.nms_rules.proofs.MemberLemmas.{In, filter-In, map-In}

-- no element has the number of one after it
abbrev pub Apart : {X : Type 0} → (X → ℕ) → List X → Type 0
Apart part [] = Unit {0}
Apart {X} part (x ∷ xs) = ((y : X) → In y xs → part x ≡ part y → ⊥) × Apart part xs

-- two elements of one number are one
pub Apart-same : {X : Type 0} (part : X → ℕ) (xs : List X) → Apart part xs → (x y : X) → In x xs → In y xs → part x ≡ part y → x ≡ y
Apart-same part [] apart x y one other e = absurd one
Apart-same part (z ∷ zs) apart x y (inl a) (inl b) e = a ∙ sym b
Apart-same part (z ∷ zs) apart x y (inl a) (inr b) e = absurd (apart.0 y b (ap part (sym a) ∙ e))
Apart-same part (z ∷ zs) apart x y (inr a) (inl b) e = absurd (apart.0 x a (ap part (sym b) ∙ sym e))
Apart-same part (z ∷ zs) apart x y (inr a) (inr b) e = Apart-same part zs apart.1 x y a b e

Apart-filter-step : {X : Type 0} (part : X → ℕ) (p : X → Bool) (x : X) (xs : List X) → ((y : X) → In y xs → part x ≡ part y → ⊥)
    → Apart part (filter p xs) → (p x ≡ true) ⊎ (p x ≡ false) → Apart part (filter p (x ∷ xs))
Apart-filter-step part p x xs first rest (inl e) = rw e ((λ y within. first y (filter-In p xs y within).0), rest)
Apart-filter-step part p x xs first rest (inr e) = rw e rest

pub Apart-filter : {X : Type 0} (part : X → ℕ) (p : X → Bool) (xs : List X) → Apart part xs → Apart part (filter p xs)
Apart-filter part p [] apart = tt
Apart-filter part p (x ∷ xs) apart = Apart-filter-step part p x xs apart.0 (Apart-filter part p xs apart.1) (cases_Bool (p x))

-- a map that keeps the numbers
pub Apart-map : {X Y : Type 0} (part : X → ℕ) (number : Y → ℕ) (f : X → Y) → ((x : X) → number (f x) ≡ part x) → (xs : List X)
    → Apart part xs → Apart number (map f xs)
Apart-map part number f keeps [] apart = tt
Apart-map {Y = Y} part number f keeps (x ∷ xs) apart = (
  (λ y within e. let from = map-In f xs y within in apart.0 from.0 from.1 (sym (keeps x) ∙ e ∙ ap number from.2 ∙ keeps from.0)),
  Apart-map part number f keeps xs apart.1,
)

-- numbers that rise
rising-tail : (n : ℕ) (ns : List ℕ) → IsStrictlyIncreasing (n ∷ ns) → IsStrictlyIncreasing ns
rising-tail n ns rising k below = let next = rising (suc k) (omega arith) in rw add-one (rw add-one at next)

below-all : {X : Type 0} (part : X → ℕ) (low : ℕ) (xs : List X) → IsStrictlyIncreasing (low ∷ map part xs) → (y : X) → In y xs
    → low < part y
below-all part low [] rising y within = absurd within
below-all part low (x ∷ xs) rising y (inl e) = let first = rising 0 (omega arith) in rw e first
below-all part low (x ∷ xs) rising y (inr within) =
    let first : low < part x = rising 0 (omega arith) in
    let more = below-all part (part x) xs (rising-tail low (part x ∷ map part xs) rising) y within in
    omega (arith, first, more)

pub Apart-rising : {X : Type 0} (part : X → ℕ) (xs : List X) → IsStrictlyIncreasing (map part xs) → Apart part xs
Apart-rising part [] rising = tt
Apart-rising part (x ∷ xs) rising = (
  (λ y within e. let less = below-all part (part x) xs rising y within in omega (arith, less, e)),
  Apart-rising part xs (rising-tail (part x) (map part xs) rising),
)

-- `IsDistinct`
differs : {X : Type 0} (part : X → ℕ) (low : ℕ) (xs : List X) → ((y : X) → In y xs → low ≡ part y → ⊥)
    → AllByRecursion (λ n. nat_eq low n ≡ false) (map part xs)
differs part low [] each = tt
differs part low (x ∷ xs) each = (ne_eqb low (part x) (each x (inl refl)), differs part low xs (λ y within. each y (inr within)))

IsDistinct-none : IsDistinct nat_eq []
unfolding IsDistinct
IsDistinct-none = tt

pub IsDistinct-Apart : {X : Type 0} (part : X → ℕ) (xs : List X) → Apart part xs → IsDistinct nat_eq (map part xs)
IsDistinct-Apart part [] apart = IsDistinct-none
IsDistinct-Apart part (x ∷ xs) apart =
    IsDistinct-cons nat_eq (part x) (map part xs) (differs part (part x) xs apart.0) (IsDistinct-Apart part xs apart.1)

apart-from : {X : Type 0} (part : X → ℕ) (low : ℕ) (xs : List X) → AllByRecursion (λ n. nat_eq low n ≡ false) (map part xs) → (y : X)
    → In y xs → low ≡ part y → ⊥
apart-from part low [] each y within e = absurd within
apart-from part low (x ∷ xs) each y (inl same) e = eqb-false low (part x) each.0 (e ∙ ap part same)
apart-from part low (x ∷ xs) each y (inr within) e = apart-from part low xs each.1 y within e

pub Apart-IsDistinct : {X : Type 0} (part : X → ℕ) (xs : List X) → IsDistinct nat_eq (map part xs) → Apart part xs
Apart-IsDistinct part [] distinct = tt
Apart-IsDistinct part (x ∷ xs) distinct = (
  apart-from part (part x) xs (IsDistinct-head nat_eq (part x) (map part xs) distinct),
  Apart-IsDistinct part xs (IsDistinct-tail nat_eq (part x) (map part xs) distinct),
)
