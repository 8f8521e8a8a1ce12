-- A list whose levels never fall is what it has on each level, level after level.
use Rattle.std.proofs.Common.{ℕ, ◌≡◌, ◌<◌, ◌≤◌, ◌⊎◌, inl, inr, Bool, true, false, List, [], ◌∷◌, ◌++◌, refl}
use Rattle.std.proofs.Common.{ap, ◌∙◌, arith}
use Rattle.std.specs.Prelude.{⊤, filter, flat_map, nat_eq}
use Rattle.std.specs.List.{AllByRecursion}
use Rattle.std.proofs.lemmas.Bool.{eq-eqb, ne_eqb}

-- one of these numbers
abbrev pub IsOneOf : List ℕ → ℕ → Type 0
IsOneOf [] n = ⊥
IsOneOf (m ∷ ms) n = (n ≡ m) ⊎ IsOneOf ms n

-- each is above the one before
abbrev pub Rise : ℕ → List ℕ → Type 0
Rise low [] = ⊤
Rise low (n ∷ ns) = (low < n) × Rise n ns

module _ {X : Type 0} (level : X → ℕ) where
  -- those on a level
  abbrev pub on : ℕ → List X → List X
  on n xs = filter (λ x. nat_eq (level x) n) xs

  -- those on each of these levels
  abbrev pub blocks : List ℕ → List X → List X
  blocks ns xs = flat_map (λ n. on n xs) ns

  -- none is below the number, nor below one before it
  abbrev pub NeverFall : ℕ → List X → Type 0
  NeverFall low [] = ⊤
  NeverFall low (x ∷ xs) = (low ≤ level x) × NeverFall (level x) xs

  lower : (low high : ℕ) (xs : List X) → low ≤ high → NeverFall high xs → NeverFall low xs
  lower low high [] le up = tt
  lower low high (x ∷ xs) le up = (omega (arith, le, up.0), up.1)

  none_on : (n low : ℕ) (xs : List X) → n < low → NeverFall low xs → on n xs ≡ []
  none_on n low [] lt up = refl
  none_on n low (x ∷ xs) lt up =
      rw (ne_eqb (level x) n (λ e. omega (arith, e, lt, up.0))) (none_on n (level x) xs (omega (arith, lt, up.0)) up.1)

  empty_blocks : (ns : List ℕ) → blocks ns [] ≡ []
  empty_blocks [] = refl
  empty_blocks (n ∷ ns) = empty_blocks ns

  -- an element below all of these levels is on none of them
  skip : (x : X) (xs : List X) (low : ℕ) (ns : List ℕ) → level x ≤ low → Rise low ns → blocks ns (x ∷ xs) ≡ blocks ns xs
  skip x xs low [] le rise = refl
  skip x xs low (n ∷ ns) le rise =
      rw (ne_eqb (level x) n (λ e. omega (arith, e, le, rise.0)))
      (ap (λ l. on n xs ++ l) (skip x xs n ns (omega (arith, le, rise.0)) rise.1))

  pub in_order : (low : ℕ) (ns : List ℕ) (xs : List X) → Rise low ns → NeverFall low xs
      → AllByRecursion (λ x. IsOneOf (low ∷ ns) (level x)) xs → on low xs ++ blocks ns xs ≡ xs
  in_order low ns [] rise up among = empty_blocks ns
  in_order low ns (x ∷ xs) rise up (inl here, more) =
      rw (eq-eqb (level x) low here)
      (ap (λ l. x ∷ (on low xs ++ l)) (skip x xs low ns (omega (arith, here)) rise)
      ∙ ap (λ l. x ∷ l) (in_order low ns xs rise (lower low (level x) xs up.0 up.1) more))
  in_order low [] (x ∷ xs) rise up (inr later, more) = absurd later
  in_order low (n ∷ ns) (x ∷ xs) rise up (inr later, more) =
      let least : n ≤ level x = lowest n ns (level x) rise.1 later in
      let none : on low (x ∷ xs) ≡ [] = none_on low n (x ∷ xs) rise.0 (least, up.1) in
      ap (λ l. l ++ blocks (n ∷ ns) (x ∷ xs)) none
      ∙ in_order n ns (x ∷ xs) rise.1 (least, up.1) (later, strip low n ns (level x) xs rise.0 least up.1 more)
    where
      lowest : (n : ℕ) (ns : List ℕ) (m : ℕ) → Rise n ns → IsOneOf (n ∷ ns) m → n ≤ m
      lowest n ns m rise (inl here) = omega (arith, here)
      lowest n [] m rise (inr later) = absurd later
      lowest n (k ∷ ks) m rise (inr later) = omega (arith, rise.0, lowest k ks m rise.1 later)

      strip : (low n : ℕ) (ns : List ℕ) (from : ℕ) (xs : List X) → low < n → n ≤ from → NeverFall from xs
          → AllByRecursion (λ x. IsOneOf (low ∷ n ∷ ns) (level x)) xs → AllByRecursion (λ x. IsOneOf (n ∷ ns) (level x)) xs
      strip low n ns from [] lt least up all = tt
      strip low n ns from (y ∷ ys) lt least up (inl here, more) = absurd (omega (arith, here, lt, least, up.0))
      strip low n ns from (y ∷ ys) lt least up (inr there, more) =
          (there, strip low n ns (level y) ys lt (omega (arith, least, up.0)) up.1 more)

-- one test after the other, either way round
pub filter-swap : {X : Type 0} (p q : X → Bool) (xs : List X) → filter p (filter q xs) ≡ filter q (filter p xs)
filter-swap p q [] = refl
filter-swap {X = X} p q (x ∷ xs) = by_tests (p x) (q x) refl refl (filter-swap p q xs)
  where
    by_tests : (b d : Bool) → p x ≡ b → q x ≡ d → filter p (filter q xs) ≡ filter q (filter p xs)
        → filter p (filter q (x ∷ xs)) ≡ filter q (filter p (x ∷ xs))
    by_tests true true by_p by_q rest = rw (by_p, by_q) (rw by_p (ap (λ l. x ∷ l) rest))
    by_tests true false by_p by_q rest = rw (by_p, by_q) rest
    by_tests false true by_p by_q rest = rw (by_p, by_q) (rw by_p rest)
    by_tests false false by_p by_q rest = rw (by_p, by_q) rest
