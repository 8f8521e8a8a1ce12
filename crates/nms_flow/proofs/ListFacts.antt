-- Facts of lists that the library does not have.
use Rattle.std.proofs.Common.{ℕ, zero, suc, ◌≡◌, ◌-◌, ◌<◌, ◌≤◌, min, inl, inr, List, [], ◌∷◌, ◌++◌, length, take, drop, Option, Some, refl}
use Rattle.std.proofs.Common.{sym, ap, subst, ◌∙◌, arith, append_assoc}
use Rattle.std.specs.Prelude.{slice_get}
use Rattle.std.specs.List.{last_or}
use Rattle.std.proofs.Math.Nat.{sub_self}
use Rattle.std.proofs.Math.Seq.{drop-append_seam, take-append-add}
use Rattle.std.specs.Prelude.{All}
use Rattle.std.proofs.lemmas.List.{append-nil, take-append-le, take_all}
use Rattle.std.proofs.lemmas.List.Elements.{All-drop, All-take}
use Rattle.std.proofs.lemmas.Bool.{cases_lt}

-- an element of the front
pub slice_get-front : {X : Type 0} (xs ys : List X) (i : ℕ) → i < length xs → slice_get (xs ++ ys) i ≡ slice_get xs i
slice_get-front [] ys i h = absurd (omega arith)
slice_get-front (x ∷ xs) ys zero h = refl
slice_get-front (x ∷ xs) ys (suc i) h = slice_get-front xs ys i (omega arith)

-- the element after the front
pub slice_get-seam : {X : Type 0} (xs : List X) (y : X) → slice_get (xs ++ y ∷ []) (length xs) ≡ Some y
slice_get-seam [] y = refl
slice_get-seam (x ∷ xs) y = slice_get-seam xs y

-- the last of two lists, one after the other
pub last_or-append : {X : Type 0} (o : Option X) (xs ys : List X) → last_or o (xs ++ ys) ≡ last_or (last_or o xs) ys
last_or-append o [] ys = refl
last_or-append o (x ∷ xs) ys = last_or-append (Some x) xs ys

-- what holds of the empty list, and of a list with one more element if it held before, holds of every list
pub by_last : {X : Type 0} (P : List X → Type 0) → P [] → ((xs : List X) (x : X) → P xs → P (xs ++ x ∷ [])) → (xs : List X) → P xs
by_last {X = X} P none more xs = from [] none xs
  where
    from : (front : List X) → P front → (rest : List X) → P (front ++ rest)
    from front holds [] = subst P (sym (append-nil front)) holds
    from front holds (x ∷ rest) = subst P (append_assoc front (x ∷ []) rest) (from (front ++ x ∷ []) (more front x holds) rest)

-- the first n of two lists, one after the other, are the first of each
pub first_of_two : {X : Type 0} (front back : List X) (n first : ℕ) → first ≡ min n (length front)
    → take first front ++ take (n - first) back ≡ take n (front ++ back)
first_of_two front back n first least = elim (cases_lt (length front) n) [
  | inr within ↦
      let all : first ≡ n = omega (arith, least) in
      rw (all, sub_self n) (append-nil (take n front) ∙ sym (take-append-le n front back within))
  | inl past ↦
      let all : first ≡ length front = omega (arith, least) in
      rw all (ap (λ t. t ++ take (n - length front) back) (take_all (length front) front (omega arith))
      ∙ sym (take-append-add front back (n - length front)) ∙ ap (λ k. take k (front ++ back)) (omega arith))
]

-- what holds of two lists, one after the other, holds of the first of each
pub all_front : {X : Type 0} (P : X → Type 0) (front back whole : List X) (n : ℕ) → front ++ back ≡ whole → n ≤ length front → All P whole
    → All P (take n front)
all_front P front back whole n is within all =
    subst (All P) (ap (take n) (sym is) ∙ take-append-le n front back within) (All-take P n whole all)

pub all_back : {X : Type 0} (P : X → Type 0) (front back whole : List X) (n : ℕ) → front ++ back ≡ whole → All P whole → All P (take n back)
all_back P front back whole n is all =
    subst (λ b. All P (take n b)) (ap (drop (length front)) (sym is) ∙ drop-append_seam front back)
    (All-take P n (drop (length front) whole) (All-drop P (length front) whole all))
