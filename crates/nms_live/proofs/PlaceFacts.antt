-- The element at each place of a list that grows.
use Rattle.std.proofs.Common.{ℕ, zero, suc, ◌≡◌, ◌<◌, ◌++◌, List, [], ◌∷◌, length, ap, sym, subst, ◌∙◌, arith, append_assoc, length-append}
use Rattle.std.specs.Prelude.{slice_index_or}
use Rattle.std.proofs.lemmas.List.{append-nil, nil_from_length}
use Rattle.std.proofs.Math.Seq.{get_or-append_seam}

-- one more
pub row_more : {X : Type 0} (P : ℕ → X → Type 0) (xs : List X) (x : X) → ((k : ℕ) (d : X) → k < length xs → P k (slice_index_or xs k d))
    → P (length xs) x
    → (k : ℕ) (d : X) → k < length (xs ++ x ∷ []) → P k (slice_index_or (xs ++ x ∷ []) k d)
row_more P [] x all here zero d below = here
row_more P [] x all here (suc k) d below = absurd (omega (arith, below))
row_more P (y ∷ xs) x all here zero d below = all 0 d (omega arith)
row_more P (y ∷ xs) x all here (suc k) d below =
    row_more (λ (j : ℕ). P (suc j)) xs x (λ j e lt. all (suc j) e (omega (arith, lt))) here k d (omega (arith, below))

-- the element after n others
pub stands_at : {X : Type 0} (all front : List X) (x : X) (back : List X) (place : ℕ) (d : X) → (front ++ x ∷ []) ++ back ≡ all
    → place ≡ length front → slice_index_or all place d ≡ x
stands_at all front x back place d parted is =
    ap (λ (l : List _). slice_index_or l place d) (sym parted ∙ append_assoc front (x ∷ []) back)
    ∙ ap (λ (k : ℕ). slice_index_or (front ++ x ∷ back) k d) is
    ∙ get_or-append_seam front x back d

-- the place of the next is below the length of all
pub place_below : {X : Type 0} (all front : List X) (x : X) (back rest : List X) (place : ℕ) → front ++ back ≡ all → back ≡ x ∷ rest
    → place ≡ length front → place < length all
place_below all front x back rest place parted next is =
    omega (arith, is, ap length parted, ap length next, length-append front back)

-- what holds at each place holds of the next
pub row_next : {X : Type 0} (P : ℕ → X → Type 0) (all front : List X) (x : X) (back rest : List X) (place : ℕ) → front ++ back ≡ all
    → back ≡ x ∷ rest → place ≡ length front → ((k : ℕ) (d : X) → k < length all → P k (slice_index_or all k d)) → P place x
row_next P all front x back rest place parted next is rows =
    let joined : (front ++ x ∷ []) ++ rest ≡ all = append_assoc front (x ∷ []) rest ∙ rw (sym next) parted in
    subst (P place) (stands_at all front x rest place x joined is)
    (rows place x (place_below all front x back rest place parted next is))

-- with nothing left, all were gone through
pub all_through : {X : Type 0} (all front back : List X) → front ++ back ≡ all → length back ≡ 0 → length front ≡ length all
all_through all front back parted none = omega (arith, ap length parted, none, length-append front back)

-- no place is in an empty list
pub row_none : {X : Type 0} (P : ℕ → X → Type 0) (xs : List X) → xs ≡ [] → (k : ℕ) (d : X) → k < length xs → P k (slice_index_or xs k d)
row_none P xs none k d below = absurd (omega (arith, below, ap length none))

-- with nothing left, those gone through are all
pub all_are : {X : Type 0} (all front back : List X) → front ++ back ≡ all → length back ≡ 0 → front ≡ all
all_are all front back parted none =
    sym (append-nil front) ∙ ap (λ (l : List _). front ++ l) (sym (nil_from_length back none)) ∙ parted
