-- The legs at a cutoff and a marginal: what they give each row, how many shares they are, and what they cost.
use Rattle.std.proofs.Common.{ℕ, ◌≡◌, ◌<◌, ◌≤◌, ◌+◌, ◌==◌, true, false, List, [], ◌∷◌, ◌⊎◌, inl, inr, refl, ap, sym, ◌∙◌, subst, arith, min}
use Rattle.std.specs.Prelude.{ℤ, pos, ◌+ℤ◌, ◌*ℤ◌}
use Rattle.std.proofs.lemmas.Bool.{cases_Bool, cases_lt, eqb-false, eqb-true, lt-ltb, le-ltb}
use Rattle.std.proofs.lemmas.Int.{ints}
use Rattle.std.proofs.lemmas.List.Sums.{sum_by-cons}
use Rattle.std.proofs.Math.IntN.{*ℤ-zero}
use Rattle.nms_quote.specs.declared.order.OrderSide.{OrderSide}
use Rattle.nms_quote.specs.declared.plan.Leg.{Leg}
use Rattle.nms_fee_book.specs.Fees.{Charges, unit_cost_of}
use Rattle.nms_rules.specs.Assignment.{amount, total}
use Rattle.nms_rules.specs.Cutoff.{savings, swept, swept_cost, swept_part}
use Rattle.nms_rules.specs.Faultless.{cost_of, given_by, sum_of}
use Rattle.nms_rules.specs.Usable.{Usable}
use Rattle.nms_rules.proofs.Offered.{Apart, given-cons, given-none, gives, gives-other, gives-own, leg_part, row_part, In, times-plus}
use Rattle.nms_sweep.specs.Choice.{below, is_level, left_after, legs_of, share_of, with_leg}
use Rattle.nms_sweep.proofs.TierLemmas.{Gets, gets, level_part, share_costs, share_counts, tier}

abbrev pub level : ℤ → ℤ → List Usable → ℕ
level cutoff marginal rows = total (level_part cutoff marginal) rows

-- the leg of a row
unfoldable pub leg_to : Usable → ℕ → Leg
leg_to row shares = record { part = row.part; price = row.price; shares = shares }

-- with a leg or without
pub with-leg : (row : Usable) (shares : ℕ) (legs : List Leg) → (0 < shares) ⊎ (shares ≤ 0)
    → (0 < shares) × (with_leg row shares legs ≡ leg_to row shares ∷ legs) ⊎ (shares ≡ 0) × (with_leg row shares legs ≡ legs)
unfolding leg_to
with-leg row shares legs (inl some) = inl (some, rw (lt-ltb 0 shares some) refl)
with-leg row shares legs (inr none) = inr (omega (arith, none), rw (le-ltb 0 shares none) refl)

-- ---- how many shares

sum-with : (row : Usable) (shares : ℕ) (legs : List Leg) → (0 < shares) × (with_leg row shares legs ≡ leg_to row shares ∷ legs)
    ⊎ (shares ≡ 0) × (with_leg row shares legs ≡ legs) → sum_of (with_leg row shares legs) ≡ shares + sum_of legs
unfolding leg_to
sum-with row shares legs (inl is) = ap sum_of is.1 ∙ sum_by-cons (λ (one : Leg). one.shares) (leg_to row shares) legs
sum-with row shares legs (inr is) = omega (arith, is.0, ap sum_of is.1)

pub sum_legs : (cutoff marginal : ℤ) (left : ℕ) (rows : List Usable)
    → sum_of (legs_of cutoff marginal left rows) ≡ swept cutoff rows + below cutoff marginal rows + min left (level cutoff marginal rows)
unfolding legs_of total
sum_legs cutoff marginal left [] = omega arith
sum_legs cutoff marginal left (row ∷ rows) =
    let share = share_of cutoff marginal left row in
    let later = left_after cutoff marginal left row in
    let legs = legs_of cutoff marginal later rows in
    omega (
      arith,
      sum-with row share legs (with-leg row share legs (cases_lt 0 share)),
      sum_legs cutoff marginal later rows,
      share_counts cutoff marginal left (level cutoff marginal rows) row (tier cutoff marginal row),
    )

-- ---- what they cost

cost-with : (fees : Charges) (side : OrderSide) (row : Usable) (shares : ℕ) (legs : List Leg)
    → row.cost ≡ unit_cost_of fees row.part side row.price
    → (0 < shares) × (with_leg row shares legs ≡ leg_to row shares ∷ legs) ⊎ (shares ≡ 0) × (with_leg row shares legs ≡ legs)
    → cost_of fees side (with_leg row shares legs) ≡ row.cost *ℤ pos shares +ℤ cost_of fees side legs
unfolding cost_of leg_to
cost-with fees side row shares legs costs (inl is) = ap (cost_of fees side) is.1
    ∙ ap (λ z. z *ℤ pos shares +ℤ cost_of fees side legs) (sym costs)
cost-with fees side row shares legs costs (inr is) =
    omega (arith, ints, ap (cost_of fees side) is.1, *ℤ-zero row.cost, ap (λ n. row.cost *ℤ pos n) is.0)

pub cost_legs : (fees : Charges) (side : OrderSide) (cutoff marginal : ℤ) (left : ℕ) (rows : List Usable)
    → ((row : Usable) → In row rows → row.cost ≡ unit_cost_of fees row.part side row.price)
    → cost_of fees side (legs_of cutoff marginal left rows) +ℤ marginal *ℤ pos (swept cutoff rows) +ℤ savings cutoff marginal rows
    ≡ swept_cost cutoff rows +ℤ marginal *ℤ pos (sum_of (legs_of cutoff marginal left rows))
unfolding legs_of total amount cost_of
cost_legs fees side cutoff marginal left [] costs = omega (arith, ints)
cost_legs fees side cutoff marginal left (row ∷ rows) costs =
    let share = share_of cutoff marginal left row in
    let later = left_after cutoff marginal left row in
    let legs = legs_of cutoff marginal later rows in
    let with' = with-leg row share legs (cases_lt 0 share) in
    omega (
      arith,
      ints,
      cost-with fees side row share legs (costs row (inl refl)) with',
      cost_legs fees side cutoff marginal later rows (λ one within. costs one (inr within)),
      share_costs cutoff marginal left row (tier cutoff marginal row),
      times-plus marginal (swept_part cutoff row) (swept cutoff rows),
      ap (λ n. marginal *ℤ pos n) (sum-with row share legs with'),
      times-plus marginal share (sum_of legs),
    )

-- ---- to whom they go

-- the row that a leg goes to
pub record GoesTo (row : Usable) (leg : Leg) : Type 0 where
  pub part : leg.part ≡ row.part
  pub price : leg.price ≡ row.price
  pub shares : 1 ≤ leg.shares

goes-with : (row : Usable) (shares : ℕ) (legs : List Leg) (rows : List Usable)
    → ((leg : Leg) → In leg legs → (one : Usable) × In one rows × GoesTo one leg)
    → (0 < shares) × (with_leg row shares legs ≡ leg_to row shares ∷ legs) ⊎ (shares ≡ 0) × (with_leg row shares legs ≡ legs) → (leg : Leg)
    → In leg (with_leg row shares legs) → (one : Usable) × In one (row ∷ rows) × GoesTo one leg
unfolding leg_to
goes-with row shares legs rows later (inl is) leg within = here (rw is.1 at within)
  where
    here : (leg ≡ leg_to row shares) ⊎ In leg legs → (one : Usable) × In one (row ∷ rows) × GoesTo one leg
    here (inl e) = (
      row,
      inl refl,
      record {
        part = ap (λ (l : Leg). l.part) e;
        price = ap (λ (l : Leg). l.price) e;
        shares =
            omega (arith, is.0, ap (λ (l : Leg). l.shares) e);
      },
    )
    here (inr more) = let at = later leg more in (at.0, inr at.1, at.2)
goes-with row shares legs rows later (inr is) leg within = let at = later leg (rw is.1 at within) in (at.0, inr at.1, at.2)

pub goes_to_row : (cutoff marginal : ℤ) (left : ℕ) (rows : List Usable) → (leg : Leg) → In leg (legs_of cutoff marginal left rows)
    → (row : Usable) × In row rows × GoesTo row leg
unfolding legs_of
goes_to_row cutoff marginal left [] leg within = absurd within
goes_to_row cutoff marginal left (row ∷ rows) leg within =
    let share = share_of cutoff marginal left row in
    let later = left_after cutoff marginal left row in
    let legs = legs_of cutoff marginal later rows in
    goes-with row share legs rows (goes_to_row cutoff marginal later rows) (with-leg row share legs (cases_lt 0 share)) leg within

apart-with : (row : Usable) (shares : ℕ) (legs : List Leg) → ((leg : Leg) → In leg legs → row.part ≡ leg.part → ⊥) → Apart leg_part legs
    → (0 < shares) × (with_leg row shares legs ≡ leg_to row shares ∷ legs) ⊎ (shares ≡ 0) × (with_leg row shares legs ≡ legs)
    → Apart leg_part (with_leg row shares legs)
unfolding leg_to
apart-with row shares legs first apart (inl is) = rw is.1 (first, apart)
apart-with row shares legs first apart (inr is) = rw is.1 apart

-- no two go to one participant
pub legs_apart : (cutoff marginal : ℤ) (left : ℕ) (rows : List Usable) → Apart row_part rows
    → Apart leg_part (legs_of cutoff marginal left rows)
unfolding legs_of
legs_apart cutoff marginal left [] apart = tt
legs_apart cutoff marginal left (row ∷ rows) apart =
    let share = share_of cutoff marginal left row in
    let later = left_after cutoff marginal left row in
    let legs = legs_of cutoff marginal later rows in
    apart-with row share legs (λ leg within e. let at = goes_to_row cutoff marginal later rows leg within in
    apart.0 at.0 at.1 (e ∙ at.2.part)) (legs_apart cutoff marginal later rows apart.1) (with-leg row share legs (cases_lt 0 share))

-- ---- what they give a row

gives-nothing : (row : Usable) (shares part : ℕ) → shares ≡ 0 → (row.part ≡ part) ⊎ (row.part ≡ part → ⊥)
    → gives (leg_to row shares) part ≡ 0
unfolding leg_to
gives-nothing row shares part none (inl own) = gives-own (leg_to row shares) part own ∙ none
gives-nothing row shares part none (inr other) = gives-other (leg_to row shares) part other

cases_eq : (m n : ℕ) → (m ≡ n) ⊎ (m ≡ n → ⊥)
cases_eq m n = eq-step m n (cases_Bool (m == n))
  where
    eq-step : (m n : ℕ) → (m == n ≡ true) ⊎ (m == n ≡ false) → (m ≡ n) ⊎ (m ≡ n → ⊥)
    eq-step m n (inl e) = inl (eqb-true m n e)
    eq-step m n (inr e) = inr (eqb-false m n e)

pub given-with : (row : Usable) (shares : ℕ) (legs : List Leg) (part : ℕ)
    → (0 < shares) × (with_leg row shares legs ≡ leg_to row shares ∷ legs) ⊎ (shares ≡ 0) × (with_leg row shares legs ≡ legs)
    → given_by (with_leg row shares legs) part ≡ gives (leg_to row shares) part + given_by legs part
unfolding leg_to
given-with row shares legs part (inl is) = ap (λ (all : List Leg). given_by all part) is.1 ∙ given-cons (leg_to row shares) legs part
given-with row shares legs part (inr is) =
    omega (arith, ap (λ (all : List Leg). given_by all part) is.1, gives-nothing row shares part is.0 (cases_eq row.part part))

-- nothing from later legs to an earlier row
pub given-later : (cutoff marginal : ℤ) (left : ℕ) (rows : List Usable) (part : ℕ) → ((row : Usable) → In row rows → part ≡ row.part → ⊥)
    → given_by (legs_of cutoff marginal left rows) part ≡ 0
given-later cutoff marginal left rows part lack =
    given-none (legs_of cutoff marginal left rows) part
    (λ leg within e. let at = goes_to_row cutoff marginal left rows leg within in lack at.0 at.1 (sym e ∙ at.2.part))

-- what is left falls
left-falls : (cutoff marginal : ℤ) (left : ℕ) (row : Usable) → (is_level cutoff marginal row ≡ true)
    ⊎ (is_level cutoff marginal row ≡ false) → left_after cutoff marginal left row ≤ left
left-falls cutoff marginal left row (inl level) = rw level (omega arith)
left-falls cutoff marginal left row (inr other) = rw other (omega arith)

-- each row gets its share, of what is left by then
pub given_share : (cutoff marginal : ℤ) (left : ℕ) (rows : List Usable) → Apart row_part rows → (row : Usable) → In row rows
    → (rest : ℕ) × (rest ≤ left) × (given_by (legs_of cutoff marginal left rows) row.part ≡ share_of cutoff marginal rest row)
unfolding legs_of leg_to
given_share cutoff marginal left [] apart row within = absurd within
given_share cutoff marginal left (first ∷ rows) apart row (inl e) =
    let share = share_of cutoff marginal left first in
    let later = left_after cutoff marginal left first in
    let legs = legs_of cutoff marginal later rows in (
      left,
      omega arith,
      rw e (omega (
        arith,
        given-with first share legs first.part (with-leg first share legs (cases_lt 0 share)),
        gives-own (leg_to first share) first.part refl,
        given-later cutoff marginal later rows first.part apart.0,
      )),
    )
given_share cutoff marginal left (first ∷ rows) apart row (inr within) =
    let share = share_of cutoff marginal left first in
    let later = left_after cutoff marginal left first in
    let legs = legs_of cutoff marginal later rows in
    let rest = given_share cutoff marginal later rows apart.1 row within in (
      rest.0,
      omega (arith, rest.1, left-falls cutoff marginal left first (cases_Bool (is_level cutoff marginal first))),
      omega (
        arith,
        given-with first share legs row.part (with-leg first share legs (cases_lt 0 share)),
        gives-other (leg_to first share) row.part (apart.0 row within),
        rest.2,
      ),
    )

pub given_gets : (cutoff marginal : ℤ) (left : ℕ) (rows : List Usable) → Apart row_part rows → (row : Usable) → In row rows
    → Gets cutoff row (given_by (legs_of cutoff marginal left rows) row.part)
given_gets cutoff marginal left rows apart row within =
    let share = given_share cutoff marginal left rows apart row within in
    subst (Gets cutoff row) (sym share.2) (gets cutoff marginal share.0 row)
