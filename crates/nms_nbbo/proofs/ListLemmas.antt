-- Lists: what is found in one, and what a list of answers holds.
use Rattle.std.proofs.Common.{◌≡◌, ℕ, zero, suc, ◌+◌, ◌<◌, ◌≤◌, Bool, true, false, cond, List, [], ◌∷◌, All, Contains, arith, Option, Some}
use Rattle.std.proofs.Common.{None, IfSome, refl, sym, ◌∙◌, ap, inl, inr, zero-add, add-zero, suc-add}
use Rattle.std.specs.List.{count_by, find, filter_map, cons_option, range_with_len}
use Rattle.std.proofs.lemmas.Bool.{cases_Bool}
use Rattle.std.proofs.lemmas.List.Elements.{All-nil, All-cons}
use Rattle.std.proofs.lemmas.List.Sums.{sum_by-cons}
use Rattle.nms_board.proofs.Offered.{in_rest}

-- what is found is in the list and passes
pub found : {X : Type 0} (passes : X → Bool) (xs : List X) (x : X) → find passes xs ≡ Some x → Contains xs x × (passes x ≡ true)
found passes [] x h = absurd cc
found passes (y ∷ ys) x h =
    elim (cases_Bool (passes y)) [
      | inl e ↦
          let first : Some y ≡ Some x = rw e at h in
          let same : y ≡ x = cc in
          ((0, omega arith, same), cc)
      | inr e ↦
          let later : find passes ys ≡ Some x = rw e at h in
          let (stands, passed) = found passes ys x later in
          (in_rest y ys x stands, passed)
    ]

-- if none is counted, none passes
pub none_counted : {X : Type 0} (passes : X → Bool) (xs : List X) → count_by passes xs ≡ 0 → All (λ x. passes x ≡ false) xs
none_counted passes [] none = All-nil (λ x. passes x ≡ false)
none_counted passes (x ∷ xs) none =
    let counts : cond (passes x) 1 0 + count_by passes xs ≡ 0 = sym (sum_by-cons (λ y. cond (passes y) 1 0) x xs) ∙ none in
    elim (cases_Bool (passes x)) [
      | inl e ↦ absurd (let more : 1 + count_by passes xs ≡ 0 = rw e at counts in omega arith)
      | inr e ↦ All-cons (λ y. passes y ≡ false) x xs e (none_counted passes xs (omega (arith, counts)))
    ]

-- a front at which nothing is found may be left out
pub filter_map-past : {Y : Type 0} (f : ℕ → Option Y) (n m low : ℕ) → ((k : ℕ) → low ≤ k → k < low + n → f k ≡ None)
    → filter_map f (range_with_len low (n + m)) ≡ filter_map f (range_with_len (low + n) m)
filter_map-past f zero m low none = rw (zero-add, add-zero) refl
filter_map-past f (suc n) m low none =
    let first : f low ≡ None = none low (omega arith) (omega arith) in
    let shift : low + 1 + n ≡ low + suc n = omega arith in
    let rest = filter_map-past f n m (low + 1) (λ k from to. none k (omega arith) (omega arith)) in
    rw (suc-add, first) (rw shift at rest)

All-cons_option : {Y : Type 0} (P : Y → Type 0) (o : Option Y) (ys : List Y) → IfSome o P → All P ys → All P (cons_option o ys)
All-cons_option P None ys is rest = rest
All-cons_option P (Some y) ys is rest = All-cons P y ys is rest

-- what holds of each answer holds of each that is listed
pub All-filter_map : {X Y : Type 0} (P : Y → Type 0) (f : X → Option Y) (xs : List X) → ((x : X) → IfSome (f x) P) → All P (filter_map f xs)
All-filter_map P f [] each = All-nil P
All-filter_map P f (x ∷ xs) each = All-cons_option P (f x) (filter_map f xs) (each x) (All-filter_map P f xs each)

Contains-cons_option : {Y : Type 0} (o : Option Y) (ys : List Y) (y : Y) → Contains ys y → Contains (cons_option o ys) y
Contains-cons_option None ys y stands = stands
Contains-cons_option (Some z) ys y stands = in_rest z ys y stands

-- an answer is listed
pub Contains-filter_map : {X Y : Type 0} (f : X → Option Y) (xs : List X) (x : X) (y : Y) → Contains xs x → f x ≡ Some y
    → Contains (filter_map f xs) y
Contains-filter_map f [] x y (k, below, at) is = absurd (omega arith)
Contains-filter_map f (z ∷ zs) x y (zero, below, at) is =
    let first : f z ≡ Some y = ap f at ∙ is in
    rw first (0, omega arith, refl)
Contains-filter_map f (z ∷ zs) x y (suc k, below, at) is =
    Contains-cons_option (f z) (filter_map f zs) y (Contains-filter_map f zs x y (k, omega arith, at) is)
