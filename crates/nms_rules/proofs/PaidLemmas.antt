-- A lawful plan's legs give the usable rows what the plan fills, at what the plan costs.
use Rattle.std.proofs.Common.{ℕ, zero, suc, ◌≡◌, ◌<◌, ◌≤◌, ◌+◌, ◌==◌, true, false, List, [], ◌∷◌, length, map, get_or, Any, ◌⊎◌, inl, inr}
use Rattle.std.proofs.Common.{refl, ap, sym, ◌∙◌, subst, arith, add-one}
use Rattle.std.specs.Prelude.{pos, ◌+ℤ◌, ◌*ℤ◌, if◌then◌else◌}
use Rattle.std.specs.List.{AllByRecursion, filter}
use Rattle.std.specs.List.Sorted.{IsStrictlyIncreasing}
use Rattle.std.proofs.lemmas.Bool.{cases_Bool, eq-eqb, ne_eqb, cond-true, cond-false}
use Rattle.std.proofs.lemmas.Int.{ints}
use Rattle.std.proofs.lemmas.List.Elements.{recursion_from_All}
use Rattle.std.proofs.lemmas.List.Sums.{sum_by-cons}
use Rattle.std.proofs.Math.IntN.{*ℤ-zero}
use Rattle.nms_quote.specs.Terms.{Terms}
use Rattle.nms_quote.specs.declared.plan.Leg.{Leg}
use Rattle.nms_quote.specs.declared.plan.Plan.{Plan}
use Rattle.nms_board.specs.View.{Seen}
use Rattle.nms_board.specs.declared.row.Row.{Row}
use Rattle.nms_fee_book.specs.Fees.{Charges, unit_cost_of}
use Rattle.nms_rules.specs.Assignment.{Assignment, amount, filled, total, total_cost}
use Rattle.nms_rules.specs.Faultless.{IsFaultless, cost_of, given_by, leg_cost, sum_of}
use Rattle.nms_rules.specs.Usable.{Usable, contra_rows, is_usable, usable, usable_row}
use Rattle.nms_rules.proofs.SignedLemmas.{times-plus}

-- ---- some element, by recursion

abbrev Some' : {X : Type 0} → (X → Type 0) → List X → Type 0
Some' P [] = ⊥
Some' P (x ∷ xs) = P x ⊎ Some' P xs

some_at : {X : Type 0} (P : X → Type 0) (xs : List X) (k : ℕ) (x : X) → k < length xs → get_or xs k x ≡ x → P x → Some' P xs
some_at P [] k x below is holds = absurd (omega (arith, below))
some_at P (y ∷ ys) zero x below is holds = inl (subst P (sym is) holds)
some_at P (y ∷ ys) (suc k) x below is holds = inr (some_at P ys k x (omega (arith, below)) is holds)

some_of : {X : Type 0} (P : X → Type 0) (xs : List X) → Any P xs → Some' P xs
some_of P xs any = some_at P xs any.0 any.1 any.2 any.3 any.4

-- no element's number is this one
abbrev Lack : {X : Type 0} → (X → ℕ) → ℕ → List X → Type 0
Lack part n xs = AllByRecursion (λ x. n ≡ part x → ⊥) xs

lack_some : {X : Type 0} (part : X → ℕ) (n : ℕ) (P : X → Type 0) (xs : List X) → Lack part n xs → Some' (λ x. (part x ≡ n) × P x) xs → ⊥
lack_some part n P [] lack some = some
lack_some part n P (x ∷ xs) lack (inl here) = lack.0 (sym here.0)
lack_some part n P (x ∷ xs) lack (inr later) = lack_some part n P xs lack.1 later

-- each number is there once
abbrev Apart : {X : Type 0} → (X → ℕ) → List X → Type 0
Apart part [] = Unit {0}
Apart part (x ∷ xs) = Lack part (part x) xs × Apart part xs

rising_tail : (n : ℕ) (ns : List ℕ) → IsStrictlyIncreasing (n ∷ ns) → IsStrictlyIncreasing ns
rising_tail n ns rising k below = let next = rising (suc k) (omega (arith, below)) in rw add-one (rw add-one at next)

lack_below : {X : Type 0} (part : X → ℕ) (n low : ℕ) (xs : List X) → n ≤ low → IsStrictlyIncreasing (low ∷ map part xs) → Lack part n xs
lack_below part n low [] under rising = tt
lack_below part n low (x ∷ xs) under rising =
    let first : low < part x = rising 0 (omega arith) in (
      (λ e. omega (arith, e, first, under)),
      lack_below part n (part x) xs (omega (arith, first, under)) (rising_tail low (part x
          ∷ map part xs) rising),
    )

apart_rising : {X : Type 0} (part : X → ℕ) (xs : List X) → IsStrictlyIncreasing (map part xs) → Apart part xs
apart_rising part [] rising = tt
apart_rising part (x ∷ xs) rising = (
  lack_below part (part x) (part x) xs (omega arith) rising,
  apart_rising part xs (rising_tail (part x) (map part xs) rising),
)

-- ---- quotations and usable rows

place : Row → ℕ
place row = row.part

row_place : Usable → ℕ
row_place row = row.part

-- the usable rows of quotations
abbrev usable_of : Terms → Charges → List Row → List Usable
usable_of asked fees quoted = map (usable_row asked fees) (filter (is_usable asked) quoted)

lack_usable-step : (asked : Terms) (fees : Charges) (n : ℕ) (row : Row) (quoted : List Row) → (n ≡ row.part → ⊥)
    → Lack row_place n (usable_of asked fees quoted) → (is_usable asked row ≡ true) ⊎ (is_usable asked row ≡ false)
    → Lack row_place n (usable_of asked fees (row ∷ quoted))
unfolding row_place
lack_usable-step asked fees n row quoted first rest (inl is) = rw is (first, rest)
lack_usable-step asked fees n row quoted first rest (inr is) = rw is rest

lack_usable : (asked : Terms) (fees : Charges) (n : ℕ) (quoted : List Row) → Lack place n quoted
    → Lack row_place n (usable_of asked fees quoted)
unfolding place
lack_usable asked fees n [] lack = tt
lack_usable asked fees n (row ∷ quoted) lack =
    lack_usable-step asked fees n row quoted lack.0 (lack_usable asked fees n quoted lack.1) (cases_Bool (is_usable asked row))

apart_usable-step : (asked : Terms) (fees : Charges) (row : Row) (quoted : List Row) → Lack row_place row.part (usable_of asked fees quoted)
    → Apart row_place (usable_of asked fees quoted) → (is_usable asked row ≡ true) ⊎ (is_usable asked row ≡ false)
    → Apart row_place (usable_of asked fees (row ∷ quoted))
unfolding row_place
apart_usable-step asked fees row quoted first rest (inl is) = rw is (first, rest)
apart_usable-step asked fees row quoted first rest (inr is) = rw is rest

apart_usable : (asked : Terms) (fees : Charges) (quoted : List Row) → Apart place quoted → Apart row_place (usable_of asked fees quoted)
unfolding place
apart_usable asked fees [] apart = tt
apart_usable asked fees (row ∷ quoted) apart =
    apart_usable-step asked fees row quoted (lack_usable asked fees row.part quoted apart.0) (apart_usable asked fees quoted apart.1)
    (cases_Bool (is_usable asked row))

-- a usable row of a leg's participant costs what the leg costs, if the leg has the quotation's price
abbrev IsRowOf : Terms → Charges → Leg → Usable → Type 0
IsRowOf asked fees leg row = (row_place row ≡ leg.part) × (row.cost ≡ unit_cost_of fees leg.part asked.side leg.price)

IsQuoted : Leg → Row → Type 0
IsQuoted leg row = (place row ≡ leg.part) × (row.price ≡ leg.price)

row_of-here : (asked : Terms) (fees : Charges) (leg : Leg) (row : Row) → IsQuoted leg row
    → IsRowOf asked fees leg (usable_row asked fees row)
unfolding IsQuoted place row_place
row_of-here asked fees leg row is = (
  is.0,
  ap (λ n. unit_cost_of fees n asked.side row.price) is.0
      ∙ ap (λ n. unit_cost_of fees leg.part asked.side n) is.1,
)

row_of-step : (asked : Terms) (fees : Charges) (leg : Leg) (row : Row) (quoted : List Row) → Lack place row.part quoted
    → (Some' (IsQuoted leg) quoted → Some' (λ one. (row_place one ≡ leg.part) × Unit {0}) (usable_of asked fees quoted)
    → Some' (IsRowOf asked fees leg) (usable_of asked fees quoted))
    → IsQuoted leg row ⊎ Some' (IsQuoted leg) quoted → (is_usable asked row ≡ true) ⊎ (is_usable asked row ≡ false)
    → Some' (λ one. (row_place one ≡ leg.part) × Unit {0}) (usable_of asked fees (row ∷ quoted))
    → Some' (IsRowOf asked fees leg) (usable_of asked fees (row ∷ quoted))
unfolding IsQuoted place row_place
row_of-step asked fees leg row quoted lack later (inl here) (inl is) given = rw is (inl (row_of-here asked fees leg row here))
row_of-step asked fees leg row quoted lack later (inl here) (inr is) given =
    let given' = rw is at given in
    absurd (lack_some row_place leg.part (λ _. Unit {0}) (usable_of asked fees quoted)
    (subst (λ n. Lack row_place n (usable_of asked fees quoted)) here.0 (lack_usable asked fees row.part quoted lack)) given')
row_of-step asked fees leg row quoted lack later (inr rest) (inl is) given =
    let given' : ((row.part ≡ leg.part) × Unit {0}) ⊎ Some' (λ one. (row_place one ≡ leg.part) × Unit {0}) (usable_of asked fees quoted) =
    rw is at given in
    rw is (past given')
  where
    past : ((row.part ≡ leg.part) × Unit {0}) ⊎ Some' (λ one. (row_place one ≡ leg.part) × Unit {0}) (usable_of asked fees quoted)
        → IsRowOf asked fees leg (usable_row asked fees row) ⊎ Some' (IsRowOf asked fees leg) (usable_of asked fees quoted)
    past (inl same) = absurd (lack_some place leg.part (λ (one : Row). one.price ≡ leg.price) quoted
        (subst (λ n. Lack place n quoted) same.0 lack) rest)
    past (inr some) = inr (later rest some)
row_of-step asked fees leg row quoted lack later (inr rest) (inr is) given = let given' = rw is at given in rw is (later rest given')

row_of : (asked : Terms) (fees : Charges) (leg : Leg) (quoted : List Row) → Apart place quoted → Some' (IsQuoted leg) quoted
    → Some' (λ one. (row_place one ≡ leg.part) × Unit {0}) (usable_of asked fees quoted)
    → Some' (IsRowOf asked fees leg) (usable_of asked fees quoted)
unfolding place
row_of asked fees leg [] apart shown given = absurd shown
row_of asked fees leg (row ∷ quoted) apart shown given =
    row_of-step asked fees leg row quoted apart.0 (row_of asked fees leg quoted apart.1) shown (cases_Bool (is_usable asked row)) given

-- ---- what legs give

-- what one leg gives
abbrev gives : Leg → ℕ → ℕ
gives leg part = if leg.part == part then leg.shares else 0

given-cons : (leg : Leg) (legs : List Leg) (part : ℕ) → given_by (leg ∷ legs) part ≡ gives leg part + given_by legs part
given-cons leg legs part = sum_by-cons (λ one. gives one part) leg legs

gives-own : (leg : Leg) (part : ℕ) → part ≡ leg.part → gives leg part ≡ leg.shares
gives-own leg part e = cond-true (leg.part == part) leg.shares 0 (eq-eqb leg.part part (sym e))

gives-other : (leg : Leg) (part : ℕ) → (leg.part ≡ part → ⊥) → gives leg part ≡ 0
gives-other leg part ne = cond-false (leg.part == part) leg.shares 0 (ne_eqb leg.part part ne)

-- each leg's participant gets something
given_some : (legs : List Leg) → AllByRecursion (λ leg. 1 ≤ leg.shares) legs → AllByRecursion (λ leg. 0 < given_by legs leg.part) legs
given_some legs each = rest legs each (λ part. omega arith)
  where
    rest : (some : List Leg) → AllByRecursion (λ leg. 1 ≤ leg.shares) some → ((part : ℕ) → given_by some part ≤ given_by legs part)
        → AllByRecursion (λ leg. 0 < given_by legs leg.part) some
    rest [] each within = tt
    rest (leg ∷ more) each within = (
      omega (arith, within leg.part, given-cons leg more leg.part, gives-own leg leg.part refl, each.0),
      rest more each.1 (λ part. omega (arith, within part, given-cons leg more part)),
    )

-- ---- sums over the rows

total-none : (leg : Leg) (rows : List Usable) → Lack row_place leg.part rows → total (λ row. gives leg row.part) rows ≡ 0
unfolding total row_place
total-none leg [] lack = refl
total-none leg (row ∷ rows) lack = omega (arith, gives-other leg row.part lack.0, total-none leg rows lack.1)

amount-none : (leg : Leg) (rows : List Usable) → Lack row_place leg.part rows
    → amount (λ row. row.cost *ℤ pos (gives leg row.part)) rows ≡ pos 0
unfolding amount row_place
amount-none leg [] lack = refl
amount-none leg (row ∷ rows) lack =
    omega (arith, ints, ap (λ n. row.cost *ℤ pos n) (gives-other leg row.part lack.0), *ℤ-zero row.cost, amount-none leg rows lack.1)

other-part : (leg : Leg) (row : Usable) (P : Usable → Type 0) (rows : List Usable) → Lack row_place row.part rows
    → Some' (λ one. (row_place one ≡ leg.part) × P one) rows → leg.part ≡ row.part → ⊥
other-part leg row P rows lack some e = lack_some row_place leg.part P rows (subst (λ n. Lack row_place n rows) (sym e) lack) some

-- a leg is counted once, at its row
total-leg : (asked : Terms) (fees : Charges) (leg : Leg) (rows : List Usable) → Apart row_place rows → Some' (IsRowOf asked fees leg) rows
    → total (λ row. gives leg row.part) rows ≡ leg.shares
unfolding total row_place
total-leg asked fees leg [] apart some = absurd some
total-leg asked fees leg (row ∷ rows) apart (inl here) =
    omega (arith, gives-own leg row.part here.0, total-none leg rows (subst (λ n. Lack row_place n rows) here.0 apart.0))
total-leg asked fees leg (row ∷ rows) apart (inr later) =
    omega (
      arith,
      gives-other leg row.part (other-part leg row (λ one. one.cost ≡ unit_cost_of fees leg.part asked.side leg.price) rows
          apart.0 later),
      total-leg asked fees leg rows apart.1 later,
    )

amount-leg : (asked : Terms) (fees : Charges) (leg : Leg) (rows : List Usable) → Apart row_place rows → Some' (IsRowOf asked fees leg) rows
    → amount (λ row. row.cost *ℤ pos (gives leg row.part)) rows ≡ leg_cost fees asked.side leg
unfolding amount row_place
amount-leg asked fees leg [] apart some = absurd some
amount-leg asked fees leg (row ∷ rows) apart (inl here) =
    omega (
      arith,
      ints,
      ap (λ n. row.cost *ℤ pos n) (gives-own leg row.part here.0),
      ap (λ z. z *ℤ pos leg.shares) here.1,
      amount-none leg rows (subst (λ n. Lack row_place n rows) here.0 apart.0),
    )
amount-leg asked fees leg (row ∷ rows) apart (inr later) =
    omega (
      arith,
      ints,
      ap (λ n. row.cost *ℤ pos n)
          (gives-other leg row.part (other-part leg row (λ one. one.cost ≡ unit_cost_of fees leg.part asked.side leg.price) rows apart.0
          later)),
      *ℤ-zero row.cost,
      amount-leg asked fees leg rows apart.1 later,
    )

-- one more leg
total-legs : (leg : Leg) (legs : List Leg) (rows : List Usable)
    → filled (given_by (leg ∷ legs)) rows ≡ total (λ row. gives leg row.part) rows + filled (given_by legs) rows
unfolding total
total-legs leg legs [] = refl
total-legs leg legs (row ∷ rows) = omega (arith, given-cons leg legs row.part, total-legs leg legs rows)

amount-legs : (leg : Leg) (legs : List Leg) (rows : List Usable)
    → total_cost (given_by (leg ∷ legs)) rows ≡ amount (λ row. row.cost *ℤ pos (gives leg row.part)) rows +ℤ total_cost (given_by legs) rows
unfolding amount
amount-legs leg legs [] = refl
amount-legs leg legs (row ∷ rows) =
    omega (
      arith,
      ints,
      ap (λ n. row.cost *ℤ pos n) (given-cons leg legs row.part),
      times-plus row.cost (gives leg row.part) (given_by legs row.part),
      amount-legs leg legs rows,
    )

total-no_legs : (rows : List Usable) → filled (given_by []) rows ≡ 0
unfolding total
total-no_legs [] = refl
total-no_legs (row ∷ rows) = omega (arith, total-no_legs rows)

amount-no_legs : (rows : List Usable) → total_cost (given_by []) rows ≡ pos 0
unfolding amount
amount-no_legs [] = refl
amount-no_legs (row ∷ rows) = omega (arith, ints, *ℤ-zero row.cost, amount-no_legs rows)

filled_legs : (asked : Terms) (fees : Charges) (legs : List Leg) (rows : List Usable) → Apart row_place rows
    → AllByRecursion (λ leg. Some' (IsRowOf asked fees leg) rows) legs → filled (given_by legs) rows ≡ sum_of legs
filled_legs asked fees [] rows apart each = total-no_legs rows
filled_legs asked fees (leg ∷ legs) rows apart each =
    omega (
      arith,
      total-legs leg legs rows,
      total-leg asked fees leg rows apart each.0,
      filled_legs asked fees legs rows apart each.1,
      sum_by-cons (λ (one : Leg). one.shares) leg legs,
    )

cost_legs : (asked : Terms) (fees : Charges) (legs : List Leg) (rows : List Usable) → Apart row_place rows
    → AllByRecursion (λ leg. Some' (IsRowOf asked fees leg) rows) legs → total_cost (given_by legs) rows ≡ cost_of fees asked.side legs
unfolding cost_of
cost_legs asked fees [] rows apart each = amount-no_legs rows
cost_legs asked fees (leg ∷ legs) rows apart each =
    omega (arith, ints, amount-legs leg legs rows, amount-leg asked fees leg rows apart each.0, cost_legs asked fees legs rows apart each.1)

-- ---- a lawful plan

legs_rows : (asked : Terms) (fees : Charges) (quoted : List Row) (legs : List Leg) → Apart place quoted
    → AllByRecursion (λ leg. Any (λ row. (row.part ≡ leg.part) × (row.price ≡ leg.price)) quoted) legs
    → AllByRecursion (λ leg. Any (λ row. row.part ≡ leg.part) (usable_of asked fees quoted)) legs
    → AllByRecursion (λ leg. Some' (IsRowOf asked fees leg) (usable_of asked fees quoted)) legs
unfolding IsQuoted place row_place
legs_rows asked fees quoted [] apart shown given = tt
legs_rows asked fees quoted (leg ∷ legs) apart shown given =
    let any = given.0 in (
      row_of asked fees leg quoted apart (some_of (λ (row : Row). (row.part ≡ leg.part) × (row.price ≡ leg.price)) quoted shown.0)
          (some_of (λ (row : Usable). (row.part ≡ leg.part) × Unit {0}) (usable_of asked fees quoted)
          (any.0, any.1, any.2, any.3, (any.4, tt))),
      legs_rows asked fees quoted legs apart shown.1 given.1,
    )

-- what it gives the rows, and what that costs
pub record SumsRightly (rows : List Usable) (plan : Plan) : Type 0 where
  pub filled_is : filled (given_by plan.legs.items) rows ≡ plan.filled
  pub cost_is : total_cost (given_by plan.legs.items) rows ≡ plan.cost

on_usable : (rows : List Usable) (given : Assignment) (legs : List Leg) → ((part : ℕ) → 0 < given part → Any (λ row. row.part ≡ part) rows)
    → AllByRecursion (λ leg. 0 < given leg.part) legs → AllByRecursion (λ leg. Any (λ row. row.part ≡ leg.part) rows) legs
on_usable rows given [] on some = tt
on_usable rows given (leg ∷ legs) on some = (on leg.part some.0, on_usable rows given legs on some.1)

pub sums_rightly : (seen : Seen) (asked : Terms) (fees : Charges) (plan : Plan)
    → IsStrictlyIncreasing (map (λ row. row.part) (contra_rows asked.side seen)) → IsFaultless seen asked fees plan
    → SumsRightly (usable seen asked fees) plan
unfolding place
sums_rightly seen asked fees plan rising is =
    let legs : List Leg = plan.legs.items in
    let quoted : List Row = contra_rows asked.side seen in
    let apart = apart_rising place quoted rising in
    let some = given_some legs (recursion_from_All (λ (leg : Leg). 1 ≤ leg.shares) legs is.shares) in
    let each = legs_rows asked fees quoted legs apart
    (recursion_from_All (λ (leg : Leg). Any (λ row. (row.part ≡ leg.part) × (row.price ≡ leg.price)) quoted) legs is.prices)
    (on_usable (usable seen asked fees) (given_by legs) legs is.lawful.on_usable some) in
    let apart' = apart_usable asked fees quoted apart in
    record {
      filled_is = filled_legs asked fees legs (usable seen asked fees) apart' each ∙ sym is.filled;
      cost_is = cost_legs asked fees legs (usable seen asked fees) apart' each ∙ sym is.cost;
    }
