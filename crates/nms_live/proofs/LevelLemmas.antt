-- Lists whose numbers never fall, level by level.
use Rattle.std.proofs.Common.{ℕ, zero, suc, ◌≡◌, ◌+◌, ◌<◌, ◌≤◌, Bool, true, false, inl, inr, List, [], ◌∷◌, ◌++◌, map, Option, Some, refl}
use Rattle.std.proofs.Common.{sym, ap, subst, ◌∙◌, arith}
use Rattle.std.specs.Prelude.{filter, nat_eq, nat_lt, unwrap_or}
use Rattle.std.specs.List.{AllByRecursion, Contains, last_or}
use Rattle.std.proofs.lemmas.Bool.{cases_lt, eq-eqb, le-ltb, lt-ltb, ne_eqb}
use Rattle.std.proofs.lemmas.Bool.Decides.{eqb_tells}
use Rattle.nms_live.specs.Lists.{EndsWith, IsRising}
use Rattle.nms_live.proofs.NumberFacts.{all_weaker}

-- those below a level
abbrev pub below : {X : Type 0} → (X → ℕ) → ℕ → List X → List X
below key level xs = filter (λ x. nat_lt (key x) level) xs

-- those on a level
abbrev pub on : {X : Type 0} → (X → ℕ) → ℕ → List X → List X
on key level xs = filter (λ x. nat_eq (key x) level) xs

module _ {X : Type 0} (key : X → ℕ) where
  -- if none is less, none is below
  none_below : (level : ℕ) (xs : List X) → AllByRecursion (λ n. level ≤ n) (map key xs) → below key level xs ≡ []
  none_below level [] all = refl
  none_below level (x ∷ xs) all = rw (le-ltb (key x) level all.0) (none_below level xs all.1)

  pub below_zero : (xs : List X) → below key 0 xs ≡ []
  below_zero [] = refl
  below_zero (x ∷ xs) = rw (le-ltb (key x) 0 (omega arith)) (below_zero xs)

  -- if all are less, all are below
  pub all_below : (level : ℕ) (xs : List X) → AllByRecursion (λ x. key x < level) xs → below key level xs ≡ xs
  all_below level [] all = refl
  all_below level (x ∷ xs) all = rw (lt-ltb (key x) level all.0) (ap (λ l. x ∷ l) (all_below level xs all.1))

  -- those below a level, then those on it
  pub next_level : (level : ℕ) (xs : List X) → IsRising (map key xs) → below key level xs ++ on key level xs ≡ below key (level + 1) xs
  next_level level [] rising = refl
  next_level level (x ∷ xs) rising = elim (cases_lt (key x) level) [
    | inl less ↦
        rw (lt-ltb (key x) level less, lt-ltb (key x) (level + 1) (omega arith), ne_eqb (key x) level (λ e. omega (arith, e)))
        (ap (λ l. x ∷ l) (next_level level xs rising.1))
    | inr least ↦ elim (cases_lt level (key x)) [
      | inl more ↦
          rw (le-ltb (key x) level (omega arith), le-ltb (key x) (level + 1) (omega arith), ne_eqb (key x) level (λ e. omega (arith, e)))
          (next_level level xs rising.1)
      | inr most ↦
          let none : below key level xs ≡ [] = none_below level xs (all_weaker (λ n. key x ≤ n) (λ n. level
          ≤ n) (map key xs) (λ n h. omega (arith, h, least)) rising.0) in
          let rest : on key level xs ≡ below key (level + 1) xs = ap (λ l. l ++ on key level xs) (sym none)
          ∙ next_level level xs rising.1 in
          rw (le-ltb (key x) level least, lt-ltb (key x) (level + 1) (omega arith), eq-eqb (key x) level (omega arith))
          (ap (λ l. l ++ x ∷ on key level xs) none ∙ ap (λ l. x ∷ l) rest)
    ]
  ]

-- one test after the other, either way round
pub filter-swap : {X : Type 0} (p q : X → Bool) (xs : List X) → filter p (filter q xs) ≡ filter q (filter p xs)
filter-swap p q [] = refl
filter-swap {X = X} p q (x ∷ xs) = by_tests (p x) (q x) refl refl (filter-swap p q xs)
  where
    by_tests : (b d : Bool) → p x ≡ b → q x ≡ d → filter p (filter q xs) ≡ filter q (filter p xs)
        → filter p (filter q (x ∷ xs)) ≡ filter q (filter p (x ∷ xs))
    by_tests true true by_p by_q rest = rw (by_p, by_q) (rw by_p (ap (λ l. x ∷ l) rest))
    by_tests true false by_p by_q rest = rw (by_p, by_q) rest
    by_tests false true by_p by_q rest = rw (by_p, by_q) (rw by_p rest)
    by_tests false false by_p by_q rest = rw (by_p, by_q) rest

-- the number of a list of numbers
abbrev pub itself : ℕ → ℕ
itself n = n

-- the last of a list, and then of the same number again and again
pub last_same : (n : ℕ) (o : Option ℕ) (ns : List ℕ) → unwrap_or o 0 ≡ n → unwrap_or (last_or o (on itself n ns)) 0 ≡ n
last_same n o [] is = is
last_same n o (m ∷ ns) is = elim (eqb_tells m n) [
  | inl same ↦ rw same.0 (last_same n (Some m) ns same.1)
  | inr other ↦ rw other.0 (last_same n o ns is)
]

-- the last of those on a level, if there is one
pub last_contained : (n : ℕ) (o : Option ℕ) (ns : List ℕ) → Contains ns n → unwrap_or (last_or o (on itself n ns)) 0 ≡ n
last_contained n o [] (place, lt, is) = absurd (omega arith)
last_contained n o (m ∷ ns) (zero, lt, is) = rw (eq-eqb m n is) (last_same n (Some m) ns is)
last_contained n o (m ∷ ns) (suc place, lt, is) = elim (eqb_tells m n) [
  | inl same ↦ rw same.0 (last_contained n (Some m) ns (place, omega arith, is))
  | inr other ↦ rw other.0 (last_contained n o ns (place, omega arith, is))
]

-- what holds of a list holds of the last of it
at_end : (P : ℕ → Type 0) (front : List ℕ) (last : ℕ) → AllByRecursion P (front ++ last ∷ []) → P last
at_end P [] last all = all.0
at_end P (n ∷ front) last all = at_end P front last all.1

-- if numbers never fall, none is above the last
pub none_above : (ns : List ℕ) (last : ℕ) → IsRising ns → EndsWith ns last → AllByRecursion (λ n. n < last + 1) ns
none_above ns last rising ends = subst (AllByRecursion (λ n. n < last + 1)) (sym ends.1) (of_front ends.0 (subst IsRising ends.1 rising))
  where
    of_front : (front : List ℕ) → IsRising (front ++ last ∷ []) → AllByRecursion (λ n. n < last + 1) (front ++ last ∷ [])
    of_front [] rising = (omega arith, tt)
    of_front (n ∷ front) rising = (omega (arith, at_end (λ m. n ≤ m) front last rising.0), of_front front rising.1)
