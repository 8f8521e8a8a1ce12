-- What tests of a list's elements say of each of them.
use Rattle.std.proofs.Common.{ℕ, ◌≡◌, ◌<◌, ◌≤◌, ◌+◌, Bool, true, false, List, [], ◌∷◌, length, get_or, All, Some, None, ◌⊎◌, inl, inr, ap, sym}
use Rattle.std.proofs.Common.{◌∙◌, subst, arith}
use Rattle.std.specs.List.{list_any, position, position_or_len}
use Rattle.std.specs.Option.{is_some}
use Rattle.std.proofs.lemmas.Bool.{cases_lt, false≢true, both_ways, cases_Bool, cond-true, cond-false, lt-ltb, le-ltb}
use Rattle.std.proofs.lemmas.List.{get_or_default}
use Rattle.std.proofs.lemmas.List.Folds.{list_any_at}
use Rattle.std.proofs.lemmas.List.Sums.{position_or_len_is, fails_before_first}

all_fail-step : {X : Type 0} (p : X → Bool) (xs : List X) (k : ℕ) (d : X) → list_any p xs ≡ false → k < length xs
    → (p (get_or xs k d) ≡ true) ⊎ (p (get_or xs k d) ≡ false) → p (get_or xs k d) ≡ false
all_fail-step p xs k d none below (inl holds) = absurd (both_ways (list_any p xs) none (list_any_at p xs k d below holds))
all_fail-step p xs k d none below (inr fails) = fails

-- no element passes
pub all_fail : {X : Type 0} (p : X → Bool) (xs : List X) → list_any p xs ≡ false → All (λ x. p x ≡ false) xs
all_fail p xs none k d below = all_fail-step p xs k d none below (cases_Bool (p (get_or xs k d)))

pub none_at : {X : Type 0} (p : X → Bool) (xs : List X) (i : ℕ) (x : X) → i < length xs → x ≡ get_or xs i x → list_any p xs ≡ false
    → p x ≡ false
none_at p xs i x below is none = ap p is ∙ all_fail p xs none i x below

-- the first that passes
pub position_found : {X : Type 0} (p : X → Bool) (xs : List X) (i : ℕ) (x : X) → i < length xs → x ≡ get_or xs i x
    → ((k : ℕ) (d : X) → k < i → p (get_or xs k d) ≡ false) → p x ≡ true → Some i ≡ position p xs
position_found p xs i x below is before passes =
    let at : position_or_len p xs ≡ i = position_or_len_is p xs i x (omega arith) (λ k less. before k x less) (λ _. ap p (sym is)
    ∙ passes) in
    ap Some (sym at) ∙ sym (cond-true _ (Some (position_or_len p xs)) None (lt-ltb (position_or_len p xs) (length xs) (omega arith)))

position_after : {X : Type 0} (p : X → Bool) (xs : List X) → length xs ≤ position_or_len p xs → None ≡ position p xs
position_after p xs after = sym (cond-false _ (Some (position_or_len p xs)) None (le-ltb (position_or_len p xs) (length xs) after))

pub position_none : {X : Type 0} (p : X → Bool) (xs : List X) → All (λ x. p x ≡ false) xs → None ≡ position p xs
position_none p [] each = position_after p [] (omega arith)
position_none p (x ∷ xs) each =
    let at : position_or_len p (x ∷ xs) ≡ length (x ∷ xs) =
    position_or_len_is p (x ∷ xs) (length (x ∷ xs)) x (omega arith) (λ k less. each k x less) (λ less. absurd (omega (arith, less))) in
    position_after p (x ∷ xs) (omega arith)

none_position-step : {X : Type 0} (p : X → Bool) (xs : List X) (k : ℕ) (d : X) → position p xs ≡ None → k < length xs
    → (position_or_len p xs < length xs) ⊎ (length xs ≤ position_or_len p xs) → p (get_or xs k d) ≡ false
none_position-step p xs k d none below (inl before) =
    absurd (false≢true (sym (ap is_some (sym (cond-true _ (Some (position_or_len p xs)) None
    (lt-ltb (position_or_len p xs) (length xs) before)) ∙ none))))
none_position-step p xs k d none below (inr after) = fails_before_first p xs k d (omega (arith, below, after))

pub none_position : {X : Type 0} (p : X → Bool) (xs : List X) → position p xs ≡ None → All (λ x. p x ≡ false) xs
none_position p xs none k d below = none_position-step p xs k d none below (cases_lt (position_or_len p xs) (length xs))

-- what holds of the elements so far, and of the next one
pub every_more : {X : Type 0} (P : X → Type 0) (xs : List X) (n : ℕ) (x : X) → n < length xs → x ≡ get_or xs n x
    → ((k : ℕ) (d : X) → k < n → P (get_or xs k d)) → P x → (k : ℕ) (d : X) → k < n + 1 → P (get_or xs k d)
every_more P xs n x below is before here k d less = by (cases_lt k n)
  where
    by : (k < n) ⊎ (n ≤ k) → P (get_or xs k d)
    by (inl earlier) = before k d earlier
    by (inr last) =
        let same : k ≡ n = omega (arith, less, last) in
        rw same (subst P (is ∙ get_or_default xs n x d below) here)
