-- What legs give each participant, and how it sums over rows of different participants.
use Rattle.std.proofs.Common.{ℕ, ◌≡◌, ◌<◌, ◌+◌, ◌==◌, true, false, List, [], ◌∷◌, ◌⊎◌, inl, inr, refl, ap, sym, ◌∙◌, arith}
use Rattle.std.specs.Prelude.{if◌then◌else◌}
use Rattle.std.proofs.lemmas.Bool.{cases_Bool, eqb-false, eqb-true, eq-eqb, ne_eqb, or_parts, or_from, cond-true, cond-false}
use Rattle.std.proofs.lemmas.List.Sums.{sum_by-cons}
use Rattle.nms_quote.specs.declared.plan.Leg.{Leg}
use Rattle.nms_rules.specs.Assignment.{filled, total}
use Rattle.nms_rules.specs.Breach.{goes_to, has_repeat}
use Rattle.nms_rules.specs.Faultless.{given_by, sum_of}
use Rattle.nms_rules.specs.Usable.{Usable}
use Rattle.nms_rules.proofs.MemberLemmas.{In, list_any-none, list_any-false}
use Rattle.nms_rules.proofs.ApartLemmas.{Apart}

abbrev pub leg_part : Leg → ℕ
leg_part leg = leg.part

-- ---- legs of which no two go to one participant

pub Apart-has_repeat : (legs : List Leg) → has_repeat legs ≡ false → Apart leg_part legs
unfolding has_repeat
Apart-has_repeat [] none = tt
Apart-has_repeat (leg ∷ legs) none =
    let parts = or_parts (goes_to leg.part legs) (has_repeat legs) none in (
      (λ other within e. eqb-false other.part leg.part (list_any-none (λ one. one.part == leg.part) legs parts.0 other within) (sym e)),
      Apart-has_repeat legs parts.1,
    )

pub has_repeat-Apart : (legs : List Leg) → Apart leg_part legs → has_repeat legs ≡ false
unfolding has_repeat
has_repeat-Apart [] apart = refl
has_repeat-Apart (leg ∷ legs) apart =
    or_from (goes_to leg.part legs) (has_repeat legs)
    (list_any-false (λ one. one.part == leg.part) legs (λ other within. ne_eqb other.part leg.part (λ e. apart.0 other within (sym e))))
    (has_repeat-Apart legs apart.1)

-- ---- what the legs give

-- what one leg gives
abbrev pub gives : Leg → ℕ → ℕ
gives leg part = if leg.part == part then leg.shares else 0

pub given-cons : (leg : Leg) (legs : List Leg) (part : ℕ) → given_by (leg ∷ legs) part ≡ gives leg part + given_by legs part
given-cons leg legs part = sum_by-cons (λ one. gives one part) leg legs

pub gives-own : (leg : Leg) (part : ℕ) → leg.part ≡ part → gives leg part ≡ leg.shares
gives-own leg part e = cond-true (leg.part == part) leg.shares 0 (eq-eqb leg.part part e)

pub gives-other : (leg : Leg) (part : ℕ) → (leg.part ≡ part → ⊥) → gives leg part ≡ 0
gives-other leg part ne = cond-false (leg.part == part) leg.shares 0 (ne_eqb leg.part part ne)

-- nothing to a participant without a leg
pub given-none : (legs : List Leg) (part : ℕ) → ((leg : Leg) → In leg legs → leg.part ≡ part → ⊥) → given_by legs part ≡ 0
given-none [] part each = refl
given-none (leg ∷ legs) part each =
    omega (
      arith,
      given-cons leg legs part,
      gives-other leg part (each leg (inl refl)),
      given-none legs part (λ other within. each other (inr within)),
    )

-- a leg's shares to its participant, if no two go to one
pub given-leg : (legs : List Leg) → Apart leg_part legs → (leg : Leg) → In leg legs → given_by legs leg.part ≡ leg.shares
given-leg [] apart leg within = absurd within
given-leg (first ∷ legs) apart leg (inl e) =
    omega (
      arith,
      given-cons first legs leg.part,
      gives-own first leg.part (ap leg_part (sym e)),
      given-none legs leg.part (λ other later same. apart.0 other later (ap leg_part (sym e) ∙ sym same)),
      ap (λ (l : Leg). l.shares) e,
    )
given-leg (first ∷ legs) apart leg (inr within) =
    omega (arith, given-cons first legs leg.part, gives-other first leg.part (apart.0 leg within), given-leg legs apart.1 leg within)

-- shares come by a leg
given-by-step : (first : Leg) (legs : List Leg) (part : ℕ) → (0 < given_by legs part → (leg : Leg) × In leg legs × (leg.part ≡ part))
    → 0 < given_by (first ∷ legs) part → (first.part == part ≡ true) ⊎ (first.part == part ≡ false)
    → (leg : Leg) × In leg (first ∷ legs) × (leg.part ≡ part)
given-by-step first legs part later some (inl e) = (first, inl refl, eqb-true first.part part e)
given-by-step first legs part later some (inr e) =
    let rest = later (omega (arith, some, given-cons first legs part, gives-other first part (eqb-false first.part part e))) in
    (rest.0, inr rest.1, rest.2)

pub given-by : (legs : List Leg) (part : ℕ) → 0 < given_by legs part → (leg : Leg) × In leg legs × (leg.part ≡ part)
given-by [] part some = absurd (omega (arith, some))
given-by (first ∷ legs) part some = given-by-step first legs part (given-by legs part) some (cases_Bool (first.part == part))

-- ---- sums over rows

abbrev pub row_part : Usable → ℕ
row_part row = row.part

total-zero : (part : Usable → ℕ) (rows : List Usable) → ((row : Usable) → In row rows → part row ≡ 0) → total part rows ≡ 0
unfolding total
total-zero part [] each = refl
total-zero part (row ∷ rows) each = omega (arith, each row (inl refl), total-zero part rows (λ other within. each other (inr within)))

total-plus : (one other both : Usable → ℕ) (rows : List Usable) → ((row : Usable) → both row ≡ one row + other row)
    → total both rows ≡ total one rows + total other rows
unfolding total
total-plus one other both [] each = refl
total-plus one other both (row ∷ rows) each = omega (arith, each row, total-plus one other both rows each)

-- one leg's shares are counted once, at the row of its participant
total-gives : (leg : Leg) (rows : List Usable) → Apart row_part rows → (row : Usable) → In row rows → leg.part ≡ row.part
    → total (λ one. gives leg one.part) rows ≡ leg.shares
unfolding total
total-gives leg [] apart row within e = absurd within
total-gives leg (first ∷ rows) apart row (inl same) e =
    let here : leg.part ≡ first.part = e ∙ ap row_part same in
    let rest = total-zero (λ one. gives leg one.part) rows
    (λ other later. gives-other leg other.part (λ also. apart.0 other later (sym here ∙ also))) in
    omega (arith, gives-own leg first.part here, rest)
total-gives leg (first ∷ rows) apart row (inr within) e =
    omega (arith, gives-other leg first.part (λ also. apart.0 row within (sym also ∙ e)), total-gives leg rows apart.1 row within e)

-- if each leg goes to a row, the rows get what the legs have
pub filled-given : (legs : List Leg) (rows : List Usable) → Apart row_part rows
    → ((leg : Leg) → In leg legs → (row : Usable) × In row rows × (leg.part ≡ row.part)) → filled (given_by legs) rows ≡ sum_of legs
filled-given [] rows apart each = total-zero (λ row. given_by [] row.part) rows (λ row within. refl)
filled-given (leg ∷ legs) rows apart each =
    let at = each leg (inl refl) in
    let split = total-plus (λ row. gives leg row.part) (λ row. given_by legs row.part) (λ row. given_by (leg ∷ legs) row.part) rows
    (λ row. given-cons leg legs row.part) in
    omega (
      arith,
      split,
      total-gives leg rows apart at.0 at.1 at.2,
      filled-given legs rows apart (λ other within. each other (inr within)),
      sum_by-cons (λ (one : Leg). one.shares) leg legs,
    )
