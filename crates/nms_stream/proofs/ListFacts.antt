-- Lists: a place that was written, and lines made place by place.
use Rattle.std.proofs.Common.{◌≡◌, ◌≢◌, ℕ, zero, suc, ◌+◌, ◌<◌, ◌≤◌, List, [], ◌∷◌, ◌++◌, refl, sym, ap, ◌∙◌, arith, slice_get, slice_set}
use Rattle.std.proofs.Common.{Some, inl, inr}
use Rattle.std.specs.List.{flat_map, range_with_len}
use Rattle.std.proofs.lemmas.Bool.{cases_eq}
use Rattle.std.proofs.lemmas.List.{append-nil, map-id}
use Rattle.std.proofs.lemmas.List.FromFn.{map-range_with_len_more}
use Rattle.std.proofs.lemmas.List.Concat.{flat_map-append}
use Rattle.nms_lines.specs.Layout.{Record}
use Rattle.nms_lines.specs.Text.{record_text, text_of}

-- what is read at the place that was written
pub get_written : {X : Type 0} (xs : List X) (i : ℕ) (x y : X) → slice_get xs i ≡ Some x → slice_get (slice_set xs i y) i ≡ Some y
get_written [] i x y there = absurd (cc)
get_written (z ∷ xs) zero x y there = refl
get_written (z ∷ xs) (suc i) x y there = get_written xs i x y there

-- and elsewhere
pub get_beside : {X : Type 0} (xs : List X) (i j : ℕ) (y : X) → i ≢ j → slice_get (slice_set xs i y) j ≡ slice_get xs j
get_beside [] i j y ne = refl
get_beside (z ∷ xs) zero zero y ne = absurd (ne refl)
get_beside (z ∷ xs) zero (suc j) y ne = refl
get_beside (z ∷ xs) (suc i) zero y ne = refl
get_beside (z ∷ xs) (suc i) (suc j) y ne = get_beside xs i j y (λ e. ne (ap suc e))

-- one place more
range_more : (n : ℕ) → range_with_len 0 (n + 1) ≡ range_with_len 0 n ++ n ∷ []
range_more n =
    sym (map-id (range_with_len 0 (n + 1))) ∙ map-range_with_len_more (λ k. k) 0 n n (omega arith)
    ∙ ap (λ (ks : List ℕ). ks ++ n ∷ []) (map-id (range_with_len 0 n))

-- places that give nothing
quiet_range : {X : Type 0} (f : ℕ → List X) (low n : ℕ) → ((k : ℕ) → low ≤ k → f k ≡ []) → flat_map f (range_with_len low n) ≡ []
quiet_range f low zero none = refl
quiet_range f low (suc n) none =
    rw (none low (omega arith)) (quiet_range f (low + 1) n (λ k from. none k (omega arith)))

-- if only one place gives something, it gives all
pub lone_range : {X : Type 0} (f : ℕ → List X) (own low n : ℕ) → low ≤ own → own < low + n → ((k : ℕ) → k ≢ own → f k ≡ [])
    → flat_map f (range_with_len low n) ≡ f own
lone_range f own low zero from below none = absurd (omega arith)
lone_range f own low (suc n) from below none =
    elim (cases_eq low own) [
      | inl same ↦
          ap (λ xs. f low ++ xs) (quiet_range f (low + 1) n (λ k above. none k (λ e. omega arith)))
          ∙ append-nil (f low) ∙ ap f same
      | inr differ ↦ rw (none low differ) (lone_range f own (low + 1) n (omega arith) (omega arith) none)
    ]

-- the text of one place more
pub texts_more : (f : ℕ → List Record) (k : ℕ) → text_of (flat_map f (range_with_len 0 (k + 1)))
    ≡ text_of (flat_map f (range_with_len 0 k)) ++ text_of (f k)
texts_more f k =
    let whole : flat_map f (range_with_len 0 (k + 1)) ≡ flat_map f (range_with_len 0 k) ++ f k =
    ap (flat_map f) (range_more k) ∙ flat_map-append f (range_with_len 0 k) (k ∷ [])
    ∙ ap (λ (rs : List Record). flat_map f (range_with_len 0 k) ++ rs) (append-nil (f k)) in
    ap text_of whole ∙ flat_map-append record_text (flat_map f (range_with_len 0 k)) (f k)
