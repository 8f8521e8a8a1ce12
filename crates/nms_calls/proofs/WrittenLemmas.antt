-- The places of a plan: what is written next is one more leg or cut, and all places say what was written.
use Rattle.std.proofs.Common.{ℕ, zero, suc, ◌≡◌, ◌<◌, ◌≤◌, ◌+◌, ◌-◌, ◌++◌, ◌⊎◌, inl, inr, List, [], ◌∷◌, Option, None, Some, All}
use Rattle.std.proofs.Common.{length, map, take, set, slice_get, refl, ap, sym, ◌∙◌, subst, arith}
use Rattle.std.proofs.lemmas.Bool.{cases_lt}
use Rattle.std.proofs.lemmas.List.{length-map, length-take, map-append, take_more_set}
use Rattle.std.proofs.lemmas.List.Elements.{All-head, All-push, All-tail}
use Rattle.nms_quote.specs.declared.certificate.Cut.{Cut}
use Rattle.nms_quote.specs.declared.certificate.CutKind.{CutKind}
use Rattle.nms_quote.specs.declared.certificate.CutKind.TheVariants as kind
use Rattle.nms_calls.specs.PlanNumbers.{cut_numbers, kind_number, marginal_of}
use Rattle.nms_calls.specs.PlanSaid.{cut_said, kind_said}

-- ---- one more

-- there is room for one more
pub room_left : {X Y : Type 0} (said : X → Y) (places : List X) (n : ℕ) → n ≤ 32 → length places ≡ 32
    → length (map said (take n places)) < 32 → n < 32
room_left said places n within long few = omega (arith, within, long, few, length-map (take n places) said, length-take n places)

-- what is written at the first free place is said last
pub one_more : {X Y : Type 0} (said : X → Y) (places : List X) (n : ℕ) (x : X) → n < length places
    → map said (take (n + 1) (set places n x)) ≡ map said (take n places) ++ said x ∷ []
one_more said places n x below = ap (map said) (take_more_set places n x below) ∙ map-append said (take n places) (x ∷ [])

-- if it is well written, all are
pub still_written : {X : Type 0} (P : X → Type 0) (places : List X) (n : ℕ) (x : X) → n < length places → All P (take n places) → P x
    → All P (take (n + 1) (set places n x))
still_written P places n x below all one = subst (All P) (sym (take_more_set places n x below)) (All-push P (take n places) x all one)

kind-back : (of : CutKind) → kind_said (kind_number of) (marginal_of of) ≡ of
kind-back kind.TooMuch = refl
kind-back kind.TooLittle = refl
kind-back (kind.Marginal marginal) = refl

-- the numbers of a cut say it
pub cut_back : (cut : Cut) → cut_said (cut_numbers cut) ≡ cut
cut_back cut = ap (λ (of : CutKind). record { price = cut.price; kind = of }) (kind-back cut.kind)

-- ---- all places

-- if the places from the first free one on are free, and the next one is freed, then one more is
pub one_cleared : {X : Type 0} (xs : List X) (k : ℕ) (x : X) (n : ℕ) → k < length xs
    → ((i : ℕ) → n ≤ i → i < k → slice_get xs i ≡ Some x)
    → (i : ℕ) → n ≤ i → i < k + 1 → slice_get (set xs k x) i ≡ Some x
one_cleared [] k x n within before i from below = absurd (omega (arith, within))
one_cleared (z ∷ xs) zero x n within before zero from below = refl
one_cleared (z ∷ xs) zero x n within before (suc i) from below = absurd (omega (arith, below))
one_cleared (z ∷ xs) (suc k) x n within before zero from below = before 0 from (omega arith)
one_cleared (z ∷ xs) (suc k) x n within before (suc i) from below =
    one_cleared xs k x (n - 1) (omega (arith, within)) (λ j f b. before (suc j) (omega (arith, f)) (omega (arith, b))) i (omega (arith, from))
    (omega (arith, below))

here : {X Y : Type 0} (said : X → Y) (numbers : Y → X) (at : Option Y → X) → ((y : Y) → at (Some y) ≡ numbers y)
    → (n : ℕ) (places : List X) → All (λ x. numbers (said x) ≡ x) (take n places) → (place : ℕ) → place < n → place < length places
    → slice_get places place ≡ Some (at (slice_get (map said (take n places)) place))
here said numbers at some zero places all place below within = absurd (omega (arith, below))
here said numbers at some (suc n) [] all place below within = absurd (omega (arith, within))
here said numbers at some (suc n) (x ∷ places) all zero below within =
    ap Some (sym (some (said x) ∙ All-head (λ one. numbers (said one) ≡ one) x (take n places) all))
here said numbers at some (suc n) (x ∷ places) all (suc place) below within =
    here said numbers at some n places (All-tail (λ one. numbers (said one) ≡ one) x (take n places) all) place (omega (arith, below))
    (omega (arith, within))

past : {X Y : Type 0} (said : X → Y) (n : ℕ) (places : List X) (place : ℕ) → n ≤ place
    → slice_get (map said (take n places)) place ≡ None
past said zero places place from = refl
past said (suc n) [] place from = refl
past said (suc n) (x ∷ places) zero from = absurd (omega (arith, from))
past said (suc n) (x ∷ places) (suc place) from = past said n places place (omega (arith, from))

-- if the first places are as they were, and nothing is at the others, each place says what was written
pub all_places : {X Y : Type 0} (said : X → Y) (numbers : Y → X) (none : X) (at : Option Y → X) → ((y : Y) → at (Some y) ≡ numbers y)
    → at None ≡ none → (n : ℕ) (old new : List X) → n ≤ 32 → length old ≡ 32 → All (λ x. numbers (said x) ≡ x) (take n old)
    → take n new ≡ take n old → ((place : ℕ) → n ≤ place → place < 32 → slice_get new place ≡ Some none)
    → (place : ℕ) → place < 32 → slice_get new place ≡ Some (at (slice_get (map said (take n old)) place))
all_places said numbers none at some free n old new within long all same behind place below = step (cases_lt place n)
  where
    step : (place < n) ⊎ (n ≤ place) → slice_get new place ≡ Some (at (slice_get (map said (take n old)) place))
    step (inl before) =
        here said numbers at some n new (subst (All (λ x. numbers (said x) ≡ x)) (sym same) all) place before
        (omega (arith, before, within, long, ap length same, length-take n new, length-take n old))
        ∙ ap (λ xs. Some (at (slice_get (map said xs) place))) same
    step (inr from) = behind place from below ∙ sym (ap (λ one. Some (at one)) (past said n old place from) ∙ ap Some free)

-- as many as are counted
pub all_said : {X Y : Type 0} (said : X → Y) (places : List X) (n : ℕ) → n ≤ 32 → length places ≡ 32
    → n ≡ length (map said (take n places))
all_said said places n within long = omega (arith, within, long, length-map (take n places) said, length-take n places)
