-- The first element that passes a test, as a loop finds it.
use Rattle.std.proofs.Common.{ℕ, ◌≡◌, ◌<◌, ◌+◌, Bool, true, false, List, [], ◌∷◌, ◌++◌, length, take, drop, Option, Some, None, refl, ap}
use Rattle.std.proofs.Common.{sym, ◌∙◌}
use Rattle.std.specs.Prelude.{slice_index_or}
use Rattle.std.specs.List.{find}
use Rattle.std.specs.Option.{option_or}
use Rattle.std.proofs.lemmas.List.{take_more, take-append-drop}
use Rattle.std.proofs.lemmas.List.Folds.{find-append}

of_one : {X : Type 0} (p : X → Bool) (x : X) → p x ≡ true → find p (x ∷ []) ≡ Some x
of_one p x passes = rw passes refl

of_none : {X : Type 0} (p : X → Bool) (x : X) → p x ≡ false → find p (x ∷ []) ≡ None
of_none p x fails = rw fails refl

-- one more that fails
pub find-none_more : {X : Type 0} (p : X → Bool) (xs : List X) (i : ℕ) (x : X) → i < length xs → x ≡ slice_index_or xs i x
    → find p (take i xs) ≡ None → p x ≡ false → find p (take (i + 1) xs) ≡ None
find-none_more p xs i x within is none fails =
    ap (find p) (take_more xs i x within ∙ ap (λ y. take i xs ++ y ∷ []) (sym is)) ∙ find-append p (take i xs) (x ∷ [])
    ∙ both none (of_none p x fails)
  where
    both : {X : Type 0} {a b : Option X} → a ≡ None → b ≡ None → option_or a b ≡ None
    both e f = rw (e, f) refl

-- the first that passes
pub find-here : {X : Type 0} (p : X → Bool) (xs : List X) (i : ℕ) (x : X) → i < length xs → x ≡ slice_index_or xs i x
    → find p (take i xs) ≡ None → p x ≡ true → find p xs ≡ Some x
find-here p xs i x within is none passes =
    let first : find p (take (i + 1) xs) ≡ Some x = ap (find p) (take_more xs i x within ∙ ap (λ y. take i xs ++ y ∷ []) (sym is))
    ∙ find-append p (take i xs) (x ∷ []) ∙ one none (of_one p x passes) in
    ap (find p) (sym (take-append-drop (i + 1) xs)) ∙ find-append p (take (i + 1) xs) (drop (i + 1) xs)
    ∙ found (find p (drop (i + 1) xs)) first
  where
    one : {X : Type 0} {a b : Option X} {y : X} → a ≡ None → b ≡ Some y → option_or a b ≡ Some y
    one e f = rw (e, f) refl

    found : {X : Type 0} {a : Option X} {y : X} (b : Option X) → a ≡ Some y → option_or a b ≡ Some y
    found b e = rw e refl
