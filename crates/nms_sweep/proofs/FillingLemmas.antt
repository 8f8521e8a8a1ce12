-- The legs at a cutoff and a marginal take the pool in order: by unit cost, then price, then place.
use Rattle.std.proofs.Common.{ℕ, ◌≡◌, ◌<◌, ◌≤◌, ◌-◌, true, false, List, [], ◌∷◌, ◌⊎◌, inl, inr, refl, ap, sym, ◌∙◌, subst, arith, min}
use Rattle.std.specs.Prelude.{ℤ, ◌<ℤ◌}
use Rattle.std.proofs.lemmas.Bool.{and_from, both_ways, cases_lt}
use Rattle.std.proofs.lemmas.Int.{ints}
use Rattle.std.proofs.lemmas.List.Sorted.{IsPermutation-sym}
use Rattle.std.specs.Int.RustNames.{int_lt}
use Rattle.nms_quote.specs.declared.order.OrderSide.{OrderSide}
use Rattle.nms_quote.specs.declared.plan.Leg.{Leg}
use Rattle.nms_fee_book.specs.Fees.{Charges}
use Rattle.nms_rules.specs.Cutoff.{is_pooled, is_swept}
use Rattle.nms_rules.specs.Faultless.{given_by, sum_of}
use Rattle.nms_rules.specs.Usable.{Usable}
use Rattle.nms_rules.proofs.Offered.{Apart, filled-given, gives-other, gives-own, row_part, All-In, Any-In, In, In-Any, true-lt}
use Rattle.nms_sweep.specs.Choice.{is_below, is_level, left_after, legs_of, share_of}
use Rattle.nms_sweep.specs.Filling.{FillsAt, FillsInOrder, TakesEarlier}
use Rattle.nms_sweep.specs.Order.{comes_before, is_placed_before}
use Rattle.nms_sweep.specs.declared.row_order.Key.TheVariants.{Price, Cost}
use Rattle.nms_sweep.proofs.LegLemmas.{given-later, given-with, given_gets, given_share, goes_to_row, leg_to, with-leg}
use Rattle.nms_sweep.proofs.OrderLemmas.{InOrder, itself, none-in, then-true}
use Rattle.nms_sweep.proofs.PlanLemmas.{Fills, Table, apart_other, in_other}
use Rattle.nms_sweep.proofs.TierLemmas.{Above, Below, Beyond, Gets, Level, Swept, Tier, tier}

-- ---- one row

-- below the marginal it gets all of its size
share-below : (cutoff marginal : ℤ) (left : ℕ) (row : Usable) → is_below cutoff marginal row ≡ true → Tier cutoff marginal row
    → share_of cutoff marginal left row ≡ row.size
unfolding Tier Swept Below Level Above Beyond
share-below cutoff marginal left row is (inl at) = absurd (both_ways (is_below cutoff marginal row) at.below is)
share-below cutoff marginal left row is (inr (inl at)) = rw (at.0.below, at.0.swept) refl
share-below cutoff marginal left row is (inr (inr (inl at))) = absurd (both_ways (is_below cutoff marginal row) at.0.below is)
share-below cutoff marginal left row is (inr (inr (inr (inl at)))) = absurd (both_ways (is_below cutoff marginal row) at.0.below is)
share-below cutoff marginal left row is (inr (inr (inr (inr at)))) = absurd (both_ways (is_below cutoff marginal row) at.0.below is)

-- at the marginal it gets what is left of it
share-level : (cutoff marginal : ℤ) (left : ℕ) (row : Usable) → is_level cutoff marginal row ≡ true → Tier cutoff marginal row
    → share_of cutoff marginal left row ≡ min left row.size
unfolding Tier Swept Below Level Above Beyond
share-level cutoff marginal left row is (inl at) = absurd (both_ways (is_level cutoff marginal row) at.level is)
share-level cutoff marginal left row is (inr (inl at)) = absurd (both_ways (is_level cutoff marginal row) at.0.level is)
share-level cutoff marginal left row is (inr (inr (inl at))) = rw (at.0.level, at.0.below, at.0.swept) refl
share-level cutoff marginal left row is (inr (inr (inr (inl at)))) = absurd (both_ways (is_level cutoff marginal row) at.0.level is)
share-level cutoff marginal left row is (inr (inr (inr (inr at)))) = absurd (both_ways (is_level cutoff marginal row) at.0.level is)

-- a row of the pool that gets shares is below the marginal or at it
some-share : (cutoff marginal : ℤ) (left : ℕ) (row : Usable) → is_pooled cutoff row ≡ true → 0 < share_of cutoff marginal left row
    → Tier cutoff marginal row → (row.cost <ℤ marginal) ⊎ ((is_level cutoff marginal row ≡ true) × (row.cost ≡ marginal))
unfolding Tier Swept Below Level Above Beyond
some-share cutoff marginal left row pooled some (inl at) = absurd (both_ways (is_pooled cutoff row) at.pooled pooled)
some-share cutoff marginal left row pooled some (inr (inl at)) = inl at.1
some-share cutoff marginal left row pooled some (inr (inr (inl at))) = inr (at.0.level, at.1)
some-share cutoff marginal left row pooled some (inr (inr (inr (inl at)))) =
    let zero : share_of cutoff marginal left row ≡ 0 = rw (at.0.level, at.0.below, at.0.swept) refl in absurd (omega (arith, some, zero))
some-share cutoff marginal left row pooled some (inr (inr (inr (inr at)))) = absurd (both_ways (is_pooled cutoff row) at.0.pooled pooled)

below-is : (cutoff marginal : ℤ) (row : Usable) → is_pooled cutoff row ≡ true → row.cost <ℤ marginal → is_below cutoff marginal row ≡ true
below-is cutoff marginal row pooled less =
    and_from (is_pooled cutoff row) (int_lt row.cost marginal) pooled (true-lt row.cost marginal less)

level-is : (cutoff marginal : ℤ) (row : Usable) → is_pooled cutoff row ≡ true → row.cost ≡ marginal → Tier cutoff marginal row
    → is_level cutoff marginal row ≡ true
unfolding Tier Swept Below Level Above Beyond
level-is cutoff marginal row pooled same (inl at) = absurd (both_ways (is_pooled cutoff row) at.pooled pooled)
level-is cutoff marginal row pooled same (inr (inl at)) = absurd (omega (arith, ints, same, at.1))
level-is cutoff marginal row pooled same (inr (inr (inl at))) = at.0.level
level-is cutoff marginal row pooled same (inr (inr (inr (inl at)))) = absurd (omega (arith, ints, same, at.1))
level-is cutoff marginal row pooled same (inr (inr (inr (inr at)))) = absurd (both_ways (is_pooled cutoff row) at.0.pooled pooled)

-- and that much less is left
left-level : (cutoff marginal : ℤ) (left : ℕ) (row : Usable) → is_level cutoff marginal row ≡ true
    → left_after cutoff marginal left row ≡ left - row.size
left-level cutoff marginal left row level = rw level refl

-- ---- the first of the rows, and the rest

given-first : (cutoff marginal : ℤ) (left : ℕ) (first : Usable) (rows : List Usable) → Apart row_part (first ∷ rows)
    → given_by (legs_of cutoff marginal left (first ∷ rows)) first.part ≡ share_of cutoff marginal left first
unfolding legs_of leg_to
given-first cutoff marginal left first rows apart =
    let share = share_of cutoff marginal left first in
    let later = left_after cutoff marginal left first in
    let legs = legs_of cutoff marginal later rows in
    omega (
      arith,
      given-with first share legs first.part (with-leg first share legs (cases_lt 0 share)),
      gives-own (leg_to first share) first.part refl,
      given-later cutoff marginal later rows first.part apart.0,
    )

given-rest : (cutoff marginal : ℤ) (left : ℕ) (first : Usable) (rows : List Usable) → Apart row_part (first ∷ rows) → (row : Usable)
    → In row rows
    → given_by (legs_of cutoff marginal left (first ∷ rows)) row.part
    ≡ given_by (legs_of cutoff marginal (left_after cutoff marginal left first) rows) row.part
unfolding legs_of leg_to
given-rest cutoff marginal left first rows apart row within =
    let share = share_of cutoff marginal left first in
    let later = left_after cutoff marginal left first in
    let legs = legs_of cutoff marginal later rows in
    omega (
      arith,
      given-with first share legs row.part (with-leg first share legs (cases_lt 0 share)),
      gives-other (leg_to first share) row.part (apart.0 row within),
    )

-- a row at the marginal that gets shares leaves those at it that are ahead of it full
level_full : (cutoff marginal : ℤ) (left : ℕ) (rows : List Usable) → Apart row_part rows → InOrder Price rows → (other row : Usable)
    → In other rows → In row rows → comes_before Price other row ≡ true
    → is_level cutoff marginal other ≡ true → is_level cutoff marginal row ≡ true
    → 0 < given_by (legs_of cutoff marginal left rows) row.part → given_by (legs_of cutoff marginal left rows) other.part ≡ other.size
level_full cutoff marginal left [] apart is other row at_other at ahead level level_row some = absurd at
level_full cutoff marginal left (first ∷ rows) apart is other row (inl e) (inl f) ahead level level_row some =
    absurd (both_ways (comes_before Price other row)
    (subst (λ (one : Usable). comes_before Price other one ≡ false) (e ∙ sym f) (itself Price other)) ahead)
level_full cutoff marginal left (first ∷ rows) apart is other row (inr later) (inl f) ahead level level_row some =
    absurd (both_ways (comes_before Price other row)
    (subst (λ (one : Usable). comes_before Price other one ≡ false) (sym f) (none-in Price first rows is.0 other later)) ahead)
level_full cutoff marginal left (first ∷ rows) apart is other row (inl e) (inr later) ahead level level_row some =
    let level_first = subst (λ (one : Usable). is_level cutoff marginal one ≡ true) e level in
    let rest = given_share cutoff marginal (left_after cutoff marginal left first) rows apart.1 row later in
    let row_share = share-level cutoff marginal rest.0 row level_row (tier cutoff marginal row) in
    let own = given-first cutoff marginal left first rows apart in
    let own_share = share-level cutoff marginal left first level_first (tier cutoff marginal first) in
    let full : given_by (legs_of cutoff marginal left (first ∷ rows)) first.part ≡ first.size =
    omega (
      arith,
      own,
      own_share,
      some,
      given-rest cutoff marginal left first rows apart row later,
      rest.1,
      rest.2,
      row_share,
      left-level cutoff marginal left first level_first,
    ) in
    subst (λ (one : Usable). given_by (legs_of cutoff marginal left (first ∷ rows)) one.part ≡ one.size) (sym e) full
level_full cutoff marginal left (first ∷ rows) apart is other row (inr later_other) (inr later) ahead level level_row some =
    given-rest cutoff marginal left first rows apart other later_other
    ∙ level_full cutoff marginal (left_after cutoff marginal left first) rows apart.1 is.1 other row later_other later ahead level level_row
    (omega (arith, some, given-rest cutoff marginal left first rows apart row later))

-- ---- all rows

-- a row of the pool that gets shares leaves every one that comes before it full
earlier_full : (cutoff marginal : ℤ) (left : ℕ) (rows : List Usable) → Apart row_part rows → InOrder Price rows → (row other : Usable)
    → In row rows → In other rows → is_pooled cutoff row ≡ true → is_pooled cutoff other ≡ true
    → comes_before Cost other row ≡ true → 0 < given_by (legs_of cutoff marginal left rows) row.part
    → given_by (legs_of cutoff marginal left rows) other.part ≡ other.size
earlier_full cutoff marginal left rows apart is row other at at_other pooled pooled_other ahead some =
    step (some-share cutoff marginal share.0 row pooled (omega (arith, some, share.2)) (tier cutoff marginal row))
    (then-true other.cost row.cost (is_placed_before other row) ahead)
  where
    share : (rest : ℕ) × (rest ≤ left) × (given_by (legs_of cutoff marginal left rows) row.part ≡ share_of cutoff marginal rest row)
    share = given_share cutoff marginal left rows apart row at

    cheap : other.cost <ℤ marginal → given_by (legs_of cutoff marginal left rows) other.part ≡ other.size
    cheap less =
        let own = given_share cutoff marginal left rows apart other at_other in
        own.2 ∙ share-below cutoff marginal own.0 other (below-is cutoff marginal other pooled_other less) (tier cutoff marginal other)

    step : (row.cost <ℤ marginal) ⊎ ((is_level cutoff marginal row ≡ true) × (row.cost ≡ marginal))
        → (other.cost <ℤ row.cost) ⊎ ((other.cost ≡ row.cost) × (is_placed_before other row ≡ true))
        → given_by (legs_of cutoff marginal left rows) other.part ≡ other.size
    step (inl less) (inl cheaper) = cheap (omega (arith, ints, less, cheaper))
    step (inl less) (inr same) = cheap (omega (arith, ints, less, same.0))
    step (inr level) (inl cheaper) = cheap (omega (arith, ints, level.1, cheaper))
    step (inr level) (inr same) =
        level_full cutoff marginal left rows apart is other row at_other at same.1
        (level-is cutoff marginal other pooled_other (same.0 ∙ level.1) (tier cutoff marginal other)) level.0 some

none-given : (cutoff : ℤ) (row : Usable) (share : ℕ) → Gets cutoff row share → cutoff <ℤ row.rank → (0 < share) ⊎ (share ≤ 0) → share ≡ 0
none-given cutoff row share gets beyond (inl some) = let within = gets.beyond some in absurd (omega (arith, ints, within, beyond))
none-given cutoff row share gets beyond (inr none) = omega (arith, none)

pub filling : (side : OrderSide) (fees : Charges) (rows by_price by_cost : List Usable) → Table side fees rows by_price by_cost
    → (most : ℕ) (cost : ℤ) (legs : List Leg)
    → Fills side fees by_price most cost legs → FillsInOrder rows (given_by legs)
filling side fees rows by_price by_cost table' most cost legs fills' =
    let cutoff = fills'.cutoff in
    let same = table'.same_price in
    let apart = apart_other rows by_price same table'.apart in
    let made : List Leg = legs_of cutoff fills'.marginal fills'.left by_price in
    let among : (row : Usable) → In row rows → In row by_price = in_other rows by_price same in
    let gets : (row : Usable) → In row rows → Gets cutoff row (given_by made row.part) =
    λ row within. given_gets cutoff fills'.marginal fills'.left by_price apart row (among row within) in
    let goes : (leg : Leg) → In leg made → (row : Usable) × In row rows × (leg.part ≡ row.part) =
    λ leg within.
    let at = goes_to_row cutoff fills'.marginal fills'.left by_price leg within in
    (at.0, in_other by_price rows (IsPermutation-sym rows by_price same) at.0 at.1, at.2.part) in
    let fills_at : FillsAt rows (given_by made) cutoff = record {
      at = λ some.
          let at = In-Any (λ (row : Usable). row.rank ≡ cutoff) by_price
          (fills'.at (omega (arith, some, filled-given made rows table'.apart goes, ap sum_of (sym fills'.is), fills'.sum))) in
          Any-In (λ (row : Usable). row.rank ≡ cutoff) rows at.0 (in_other by_price rows (IsPermutation-sym rows by_price same) at.0 at.1)
          at.2;
      sweeps = All-In (λ (row : Usable). is_swept cutoff row ≡ true → given_by made row.part ≡ row.size) rows
          (λ row within. (gets row within).sweeps);
      takes = All-In (λ (row : Usable). is_pooled cutoff row ≡ true → 0 < given_by made row.part
          → TakesEarlier cutoff rows (given_by made) row) rows (λ row within pooled some.
          All-In (λ (other : Usable). is_pooled cutoff other ≡ true → comes_before Cost other row ≡ true
          → given_by made other.part ≡ other.size) rows (λ other also pooled_other ahead.
          earlier_full cutoff fills'.marginal fills'.left by_price apart table'.in_order row other (among row within) (among other also)
          pooled pooled_other ahead some));
      beyond = All-In (λ (row : Usable). cutoff <ℤ row.rank → given_by made row.part ≡ 0) rows (λ row within beyond.
          none-given cutoff row (given_by made row.part) (gets row within) beyond (cases_lt 0 (given_by made row.part)));
    } in
    (cutoff, subst (λ (all : List Leg). FillsAt rows (given_by all) cutoff) (sym fills'.is) fills_at)
