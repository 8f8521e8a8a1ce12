-- What a search of a list returns: if some element passes a test, a search finds one that does.
use Rattle.std.proofs.Common.{ℕ, ◌≡◌, ◌<◌, ◌≤◌, ◌+◌, ◌-◌, Bool, cond, drop, true, false, List, [], ◌∷◌, length, refl}
use Rattle.std.proofs.Common.{get_or, All, Option, Some, None}
use Rattle.std.proofs.Common.{◌⊎◌, inl, inr, ap, sym}
use Rattle.std.proofs.Common.{◌∙◌, arith}
use Rattle.std.specs.Prelude.{◌||◌, not}
use Rattle.std.specs.List.{find, list_any, position, position_or_len}
use Rattle.std.specs.Option.{is_some}
use Rattle.std.proofs.lemmas.Bool.{cases_Bool, cases_lt, false≢true, cond-true, lt-ltb}
use Rattle.std.proofs.lemmas.List.Folds.{Any-from_list_any, list_any_none}
use Rattle.std.proofs.lemmas.List.{get_or-drop}
use Rattle.std.proofs.lemmas.List.Quantifiers.{position-Some}
use Rattle.std.proofs.lemmas.List.Sums.{fails_before_first}
use Rattle.nms_rules.proofs.Offered.{In}

none_position-step : {X : Type 0} (p : X → Bool) (xs : List X) (k : ℕ) (d : X) → position p xs ≡ None → k < length xs
    → (position_or_len p xs < length xs) ⊎ (length xs ≤ position_or_len p xs) → p (get_or xs k d) ≡ false
none_position-step p xs k d none below (inl before) =
    absurd (false≢true (sym (ap is_some (sym (cond-true _ (Some (position_or_len p xs)) None
    (lt-ltb (position_or_len p xs) (length xs) before)) ∙ none))))
none_position-step p xs k d none below (inr after) = fails_before_first p xs k d (omega (arith, below, after))

-- if a search finds nothing, no element passes
pub none_position : {X : Type 0} (p : X → Bool) (xs : List X) → position p xs ≡ None → All (λ x. p x ≡ false) xs
none_position p xs none k d below = none_position-step p xs k d none below (cases_lt (position_or_len p xs) (length xs))

-- if some element passes, it finds one
pub some_position : {X : Type 0} (p : X → Bool) (xs : List X) → list_any p xs ≡ true → position p xs ≡ None → ⊥
some_position p xs some none =
    let found = Any-from_list_any p xs some in
    false≢true (sym (none_position p xs none found.0 found.1 found.2) ∙ (ap p found.3 ∙ found.4))

-- if it finds nothing, none passes
pub none_any : {X : Type 0} (p : X → Bool) (xs : List X) → position p xs ≡ None → list_any p xs ≡ false
none_any p xs none = list_any_none p xs (none_position p xs none)

pub or-false : (a b : Bool) → a ≡ false → (a || b) ≡ true → b ≡ true
or-false true b e h = absurd (false≢true (sym e))
or-false false b e h = h

pub not-true : (b : Bool) → not b ≡ true → b ≡ false
not-true true e = absurd (false≢true e)
not-true false e = refl

pub not-false : (b : Bool) → not b ≡ false → b ≡ true
not-false true e = refl
not-false false e = absurd (false≢true (sym e))

-- what a search after an element finds is after it
pub behind-at : {X : Type 0} (p : X → Bool) (xs : List X) (i at : ℕ) (d : X) → position p (drop (i + 1) xs) ≡ Some at
    → p (get_or xs (i + 1 + at) d) ≡ true
behind-at p xs i at d found =
    ap p (sym (get_or-drop (i + 1) xs at d)) ∙ (position-Some p (drop (i + 1) xs) at d found).1

-- the element that is found, read at its place, passes
pub found-at : {X : Type 0} (p : X → Bool) (xs : List X) (i : ℕ) (x : X) → position p xs ≡ Some i → x ≡ get_or xs i x → p x ≡ true
found-at p xs i x found is = ap p is ∙ (position-Some p xs i x found).1

-- no element between an element and the one that is found after it passes
pub behind-next : {X : Type 0} (p : X → Bool) (xs : List X) (i at k : ℕ) (d : X) → position p (drop (i + 1) xs) ≡ Some at → i < k
    → k < i + 1 + at → p (get_or xs k d) ≡ false
behind-next p xs i at k d found after before =
    let j : ℕ = k - (i + 1) in
    let e : k ≡ i + 1 + j = omega (arith, after) in
    ap (λ (n : ℕ). p (get_or xs n d)) e ∙ (ap p (sym (get_or-drop (i + 1) xs j d))
    ∙ (position-Some p (drop (i + 1) xs) at d found).2 j (omega (arith, after, before)))

-- ---- what `find` finds

some-same : {X : Type 0} (b : Bool) (x y : X) (more : Option X) → b ≡ true → cond b (Some y) more ≡ Some x → y ≡ x
some-same b x y more holds e = search (rw holds at e)

skipped : {X : Type 0} (b : Bool) (o y more : Option X) → b ≡ false → cond b y more ≡ o → more ≡ o
skipped b o y more fails e = rw fails at e

find-step : {X : Type 0} (p : X → Bool) (y : X) (ys : List X) (x : X) → (find p ys ≡ Some x → In x ys × (p x ≡ true))
    → find p (y ∷ ys) ≡ Some x → (p y ≡ true) ⊎ (p y ≡ false) → In x (y ∷ ys) × (p x ≡ true)
find-step p y ys x later e (inl holds) = let same = some-same (p y) x y (find p ys) holds e in (inl (sym same), ap p (sym same) ∙ holds)
find-step p y ys x later e (inr fails) = let rest = later (skipped (p y) (Some x) (Some y) (find p ys) fails e) in (inr rest.0, rest.1)

pub find-is : {X : Type 0} (p : X → Bool) (xs : List X) (x : X) → find p xs ≡ Some x → In x xs × (p x ≡ true)
find-is p [] x e = absurd (false≢true (ap is_some e))
find-is p (y ∷ ys) x e = find-step p y ys x (find-is p ys x) e (cases_Bool (p y))

find-none-step : {X : Type 0} (b : Bool) (x : X) (more : Option X) (rest : Bool) → (more ≡ None → rest ≡ false)
    → cond b (Some x) more ≡ None → (b || rest) ≡ false
find-none-step true x more rest later e = cc
find-none-step false x more rest later e = later e

-- if it finds nothing, none passes
pub find-none : {X : Type 0} (p : X → Bool) (xs : List X) → find p xs ≡ None → list_any p xs ≡ false
find-none p [] e = refl
find-none p (x ∷ xs) e = find-none-step (p x) x (find p xs) (list_any p xs) (find-none p xs) e
