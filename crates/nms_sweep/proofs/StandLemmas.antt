-- The legs are in the order of the rows to which they go: by price, then by place.
use Rattle.std.proofs.Common.{ℕ, ◌≡◌, ◌<◌, false, List, [], ◌∷◌, map, Option, Some, None, ◌⊎◌, inl, inr, refl, ap, sym, ◌∙◌, subst, arith}
use Rattle.std.specs.Prelude.{ℤ, ◌<ℤ◌}
use Rattle.std.specs.List.Sorted.{IsPermutation, IsStrictlyIncreasing}
use Rattle.std.proofs.lemmas.Bool.{cases_lt, ltb-false}
use Rattle.std.proofs.lemmas.Int.{ints}
use Rattle.std.proofs.lemmas.List.Kept.{AllPairs-cons}
use Rattle.std.proofs.lemmas.List.Sorted.{IsPermutation-sym}
use Rattle.nms_quote.specs.Terms.{Terms}
use Rattle.nms_quote.specs.declared.order.OrderSide.{OrderSide}
use Rattle.nms_quote.specs.declared.plan.Leg.{Leg}
use Rattle.nms_board.specs.View.{Seen}
use Rattle.nms_fee_book.specs.Fees.{Charges}
use Rattle.nms_rules.specs.Usable.{Usable, contra_rows, rank_of, usable}
use Rattle.nms_rules.proofs.Offered.{Apart, row_part, All-In, In, better-from-rank}
use Rattle.nms_sweep.specs.Choice.{left_after, legs_chosen, legs_of, share_of, with_leg}
use Rattle.nms_sweep.specs.Order.{AreInOrder, IsOrdered, StandsBefore, comes_before, has_lower_place}
use Rattle.nms_sweep.specs.declared.choice.Choice.{Choice}
use Rattle.nms_sweep.specs.declared.row_order.Key.TheVariants.{Price}
use Rattle.nms_sweep.proofs.CutLemmas.{rank-same}
use Rattle.nms_sweep.proofs.LegLemmas.{GoesTo, goes_to_row, leg_to, with-leg}
use Rattle.nms_sweep.proofs.OrderLemmas.{InOrder, in_order_from, none-in, then-false}
use Rattle.nms_sweep.proofs.PlanLemmas.{apart_other, in_other, usable_apart, usable_is}

-- a row that is ahead of another participant's
record IsAhead (side : OrderSide) (row later : Usable) : Type 0 where
  pub rank : row.rank ≡ rank_of side row.price
  pub later_rank : later.rank ≡ rank_of side later.price
  pub differs : row.part ≡ later.part → ⊥
  pub behind : comes_before Price later row ≡ false

-- its leg is before the other's
stands : (side : OrderSide) (row later : Usable) (shares : ℕ) (leg : Leg) → IsAhead side row later → GoesTo later leg
    → StandsBefore side (leg_to row shares) leg
unfolding leg_to
stands side row later shares leg is goes = step (then-false later.rank row.rank (has_lower_place later row) is.behind)
  where
    step : (row.rank <ℤ later.rank) ⊎ ((later.rank ≡ row.rank) × (has_lower_place later row ≡ false))
        → StandsBefore side (leg_to row shares) leg
    step (inl less) = inl (better-from-rank side row.price leg.price
        (omega (arith, ints, less, is.rank, is.later_rank, ap (rank_of side) goes.price)))
    step (inr same) =
        let price : row.price ≡ later.price = rank-same side row.price later.price (sym is.rank ∙ sym same.0 ∙ is.later_rank) in
        inr (price ∙ sym goes.price, omega (arith, ltb-false later.part row.part same.1, is.differs, goes.part))

stand-with : (side : OrderSide) (row : Usable) (shares : ℕ) (legs : List Leg)
    → ((leg : Leg) → In leg legs → StandsBefore side (leg_to row shares) leg) → AreInOrder side legs
    → (0 < shares) × (with_leg row shares legs ≡ leg_to row shares ∷ legs) ⊎ (shares ≡ 0) × (with_leg row shares legs ≡ legs)
    → AreInOrder side (with_leg row shares legs)
stand-with side row shares legs first rest (inl is) =
    subst (AreInOrder side) (sym is.1)
    (AllPairs-cons (λ (leg later : Leg). StandsBefore side leg later) (leg_to row shares) legs
    (All-In (λ (later : Leg). StandsBefore side (leg_to row shares) later) legs first) rest)
stand-with side row shares legs first rest (inr is) = subst (AreInOrder side) (sym is.1) rest

legs_stand : (side : OrderSide) (cutoff marginal : ℤ) (left : ℕ) (rows : List Usable)
    → ((row : Usable) → In row rows → row.rank ≡ rank_of side row.price) → Apart row_part rows → InOrder Price rows
    → AreInOrder side (legs_of cutoff marginal left rows)
unfolding legs_of
legs_stand side cutoff marginal left [] ranks apart is = λ i j d less below. absurd (omega (arith, below))
legs_stand side cutoff marginal left (row ∷ rows) ranks apart is =
    let share = share_of cutoff marginal left row in
    let later = left_after cutoff marginal left row in
    let legs = legs_of cutoff marginal later rows in
    stand-with side row share legs
    (λ leg within.
    let at = goes_to_row cutoff marginal later rows leg within in
    stands side row at.0 share leg (record {
      rank = ranks row (inl refl);
      later_rank = ranks at.0 (inr at.1);
      differs = apart.0 at.0 at.1;
      behind = none-in Price row rows is.0 at.0 at.1;
    }) at.2)
    (legs_stand side cutoff marginal later rows (λ one within. ranks one (inr within)) apart.1 is.1)
    (with-leg row share legs (cases_lt 0 share))

chosen_stand : (side : OrderSide) (rows : List Usable) (most : ℕ) (found : Option Choice) (by_price : List Usable)
    → ((row : Usable) → In row by_price → row.rank ≡ rank_of side row.price) → Apart row_part by_price → InOrder Price by_price
    → AreInOrder side (legs_chosen rows most found by_price)
chosen_stand side rows most None by_price ranks apart is = λ i j d less below. absurd (omega (arith, below))
chosen_stand side rows most (Some choice) by_price ranks apart is = legs_stand side choice.cutoff choice.marginal _ by_price ranks apart is

-- whichever cutoff is chosen, of rows that are the usable ones in the order of their prices
pub chosen_in_order : (seen : Seen) (asked : Terms) (fees : Charges) (rows by_price : List Usable) → rows ≡ usable seen asked fees
    → IsStrictlyIncreasing (map (λ row. row.part) (contra_rows asked.side seen))
    → IsPermutation rows by_price → IsOrdered Price by_price → (most : ℕ) (found : Option Choice)
    → AreInOrder asked.side (legs_chosen rows most found by_price)
chosen_in_order seen asked fees rows by_price are rising same ordered most found =
    let usables : List Usable = usable seen asked fees in
    let among : IsPermutation usables by_price = subst (λ (one : List Usable). IsPermutation one by_price) are same in
    chosen_stand asked.side rows most found by_price
    (λ row within. let at = usable_is seen asked fees row (in_other by_price usables (IsPermutation-sym usables by_price among) row within)
    in rw at.1.is refl)
    (apart_other usables by_price among (usable_apart seen asked fees rising)) (in_order_from Price by_price ordered)
