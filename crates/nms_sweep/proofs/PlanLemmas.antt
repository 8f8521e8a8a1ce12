-- The plan is lawful, fills all that can be filled, and is accepted with its certificate.
use Rattle.std.proofs.Common.{ℕ, ◌≡◌, ◌<◌, ◌≤◌, ◌+◌, ◌-◌, true, List, [], ◌∷◌, map, All, Any, Option, Some, None, nat_eq, ◌⊎◌, inl, inr}
use Rattle.std.proofs.Common.{refl, ap, sym, ◌∙◌, subst, arith}
use Rattle.std.specs.Prelude.{ℤ, pos, ◌*ℤ◌, ◌<ℤ◌, ◌≤ℤ◌, AllPairs}
use Rattle.std.specs.Int.RustNames.{int_lt}
use Rattle.std.specs.List.{filter}
use Rattle.std.specs.List.Sorted.{IsPermutation, IsStrictlyIncreasing}
use Rattle.std.specs.Option.{is_some, unwrap_or}
use Rattle.std.proofs.lemmas.Bool.{cases_lt, and_from, false≢true, le-ltb, lt-ltb}
use Rattle.std.proofs.lemmas.Int.{ints}
use Rattle.std.proofs.lemmas.List.Sorted.{All-permutation, IsPermutation-map, IsPermutation-sym, IsPermutation-trans}
use Rattle.std.proofs.lemmas.Map.Keys.{IsDistinct-IsPermutation}
use Rattle.nms_quote.specs.Terms.{Terms}
use Rattle.nms_quote.specs.declared.certificate.Cut.{Cut}
use Rattle.nms_quote.specs.declared.certificate.CutKind.{CutKind}
use Rattle.nms_quote.specs.declared.certificate.CutKind.TheVariants.{TooMuch, TooLittle, Marginal}
use Rattle.nms_quote.specs.declared.order.OrderSide.{OrderSide}
use Rattle.nms_quote.specs.declared.order.OrderSide.TheVariants.{Buy, Sell}
use Rattle.nms_quote.specs.declared.plan.Leg.{Leg}
use Rattle.nms_quote.specs.declared.plan.Plan.{Plan}
use Rattle.nms_board.specs.View.{AreRows, Seen}
use Rattle.nms_board.specs.declared.row.Row.{Row}
use Rattle.nms_fee_book.specs.Fees.{Charges, unit_cost_of}
use Rattle.nms_rules.specs.Accepted.{IsAccepted}
use Rattle.nms_rules.specs.Assignment.{IsLawful, SweepsBetter, fillable, total}
use Rattle.nms_rules.specs.Cutoff.{IsBounded, KindHolds, least_cost, pool, pool_part, savings_part, swept, swept_cost_part, swept_part}
use Rattle.nms_rules.specs.Faultless.{IsFaultless, cost_of, given_by, sum_of}
use Rattle.nms_rules.specs.Usable.{Usable, contra_rows, is_better, is_usable, rank_of, usable, usable_row}
use Rattle.nms_rules.proofs.Offered.{Apart, Apart-IsDistinct, Apart-filter, Apart-map, Apart-rising, IsDistinct-Apart, filled-given}
use Rattle.nms_rules.proofs.Offered.{given-by, leg_part, row_part, All-In, Any-In, In, In-All, filter-In, map-In, times-plus, true-lt}
use Rattle.nms_sweep.specs.Choice.{IsInRange, below, below_part, candidate, chosen, cost_chosen, cut_by, kind_by, legs_chosen, legs_of}
use Rattle.nms_sweep.specs.Choice.{share_cost}
use Rattle.nms_sweep.specs.Cutoffs.{cutoff_at, cutoffs_of}
use Rattle.nms_sweep.specs.Order.{IsByPrice, IsOrdered}
use Rattle.nms_sweep.specs.declared.choice.Choice.{Choice}
use Rattle.nms_sweep.specs.declared.cutoffs.Cutoff.{Cutoff}
use Rattle.nms_sweep.specs.declared.row_order.Key.TheVariants.{Price, Cost}
use Rattle.nms_sweep.proofs.ChoiceLemmas.{IsNoDearer, Offered, chosen_least, chosen_offered, offer}
use Rattle.nms_sweep.proofs.CutLemmas.{best_first, cut_at, cut_of_row, cuts_of, kind_at, map_per_price, row_of_cut}
use Rattle.nms_sweep.proofs.FitLemmas.{Fits, fits}
use Rattle.nms_sweep.proofs.LegLemmas.{GoesTo, cost_legs, given_gets, goes_to_row, legs_apart, level, sum_legs}
use Rattle.nms_sweep.proofs.MarginalLemmas.{marginal_is}
use Rattle.nms_sweep.proofs.OrderLemmas.{InOrder, Ordered, in_order_from, ordered_from}
use Rattle.nms_sweep.proofs.SameLemmas.{chosen_same, fillable_same}
use Rattle.nms_sweep.proofs.TierLemmas.{Gets, level_part}
use Rattle.nms_sweep.proofs.TotalLemmas.{amount_same, total_same}

-- ---- the rows in another order

pub in_other : {X : Type 0} (one other : List X) → IsPermutation one other → (x : X) → In x one → In x other
in_other {X} one other same =
    In-All (λ (x : X). In x other) one (All-permutation (λ (x : X). In x other) other one (IsPermutation-sym one other same)
    (All-In (λ (x : X). In x other) other (λ x within. within)))

eq-flips : (m n : ℕ) → nat_eq m n ≡ nat_eq n m
eq-flips m n = grind arith

pub apart_other : (one other : List Usable) → IsPermutation one other → Apart row_part one → Apart row_part other
apart_other one other same apart =
    Apart-IsDistinct row_part other (IsDistinct-IsPermutation nat_eq eq-flips (map row_part one) (map row_part other)
    (IsPermutation-map row_part one other same) (IsDistinct-Apart row_part one apart))

-- ---- the usable rows

place : Row → ℕ
place row = row.part

-- what a usable row is
pub record IsOf (seen : Seen) (asked : Terms) (fees : Charges) (row : Usable) (quoted : Row) : Type 0 where
  pub within : In quoted (contra_rows asked.side seen)
  pub is : row ≡ usable_row asked fees quoted

pub usable_is : (seen : Seen) (asked : Terms) (fees : Charges) (row : Usable) → In row (usable seen asked fees)
    → (quoted : Row) × IsOf seen asked fees row quoted
usable_is seen asked fees row within =
    let from = map-In (usable_row asked fees) (filter (is_usable asked) (contra_rows asked.side seen)) row within in
    (from.0, record { within = (filter-In (is_usable asked) (contra_rows asked.side seen) from.0 from.1).0; is = from.2 })

pub usable_apart : (seen : Seen) (asked : Terms) (fees : Charges)
    → IsStrictlyIncreasing (map (λ row. row.part) (contra_rows asked.side seen)) → Apart row_part (usable seen asked fees)
unfolding place
usable_apart seen asked fees rising =
    Apart-map place row_part (usable_row asked fees) (λ row. refl) (filter (is_usable asked) (contra_rows asked.side seen))
    (Apart-filter place (is_usable asked) (contra_rows asked.side seen) (Apart-rising place (contra_rows asked.side seen) rising))

-- what the planner goes through
pub record Table (side : OrderSide) (fees : Charges) (rows by_price by_cost : List Usable) : Type 0 where
  pub same_price : IsPermutation rows by_price
  pub same_cost : IsPermutation rows by_cost
  pub in_order : InOrder Price by_price
  pub ordered_price : Ordered Price by_price
  pub ordered_cost : Ordered Cost by_cost
  pub apart : Apart row_part rows
  pub ranks : (row : Usable) → In row rows → row.rank ≡ rank_of side row.price
  pub costs : (row : Usable) → In row rows → row.cost ≡ unit_cost_of fees row.part side row.price

pub table : (seen : Seen) (asked : Terms) (fees : Charges) (by_price by_cost : List Usable)
    → IsStrictlyIncreasing (map (λ row. row.part) (contra_rows asked.side seen))
    → IsPermutation (usable seen asked fees) by_price → IsOrdered Price by_price → IsPermutation by_price by_cost → IsOrdered Cost by_cost
    → Table asked.side fees (usable seen asked fees) by_price by_cost
table seen asked fees by_price by_cost rising same ordered again cheapest = record {
  same_price = same;
  same_cost = IsPermutation-trans (usable seen asked fees) by_price by_cost same again;
  in_order = in_order_from Price by_price ordered;
  ordered_price = ordered_from Price by_price (in_order_from Price by_price ordered);
  ordered_cost = ordered_from Cost by_cost (in_order_from Cost by_cost cheapest);
  apart = usable_apart seen asked fees rising;
  ranks = λ row within. let at = usable_is seen asked fees row within in rw at.1.is refl;
  costs = λ row within. let at = usable_is seen asked fees row within in rw at.1.is refl;
}

-- ---- what a cut says

-- more must be swept, or there is less, or it has a marginal
pub record IsFit (rows by_cost : List Usable) (most : ℕ) (cutoff : ℤ) : Type 0 where
  pub sweeps : swept cutoff rows ≤ most
  pub reaches : most ≤ swept cutoff rows + pool cutoff rows
  pub is : kind_at rows by_cost most cutoff ≡ Marginal (share_cost cutoff (most - swept cutoff rows) (pos 0) by_cost)

unfoldable pub Kinds : List Usable → List Usable → ℕ → ℤ → Type 0
Kinds rows by_cost most cutoff =
    (most < swept cutoff rows) × (kind_at rows by_cost most cutoff ≡ TooMuch)
    ⊎ ((swept cutoff rows + pool cutoff rows < most) × (kind_at rows by_cost most cutoff ≡ TooLittle) ⊎ IsFit rows by_cost most cutoff)

kinds-step : (rows by_cost : List Usable) (most : ℕ) (cutoff : ℤ) → (most < swept cutoff rows) ⊎ (swept cutoff rows ≤ most)
    → (swept cutoff rows + pool cutoff rows < most) ⊎ (most ≤ swept cutoff rows + pool cutoff rows) → Kinds rows by_cost most cutoff
unfolding Kinds
kinds-step rows by_cost most cutoff (inl much) little = inl (much, rw (lt-ltb most (swept cutoff rows) much) refl)
kinds-step rows by_cost most cutoff (inr right) (inl little) =
    inr (inl (
      little,
      rw (
        le-ltb most (swept cutoff rows) right,
        lt-ltb (pool cutoff rows) (most - swept cutoff rows) (omega (arith, little, right)),
      ) refl,
    ))
kinds-step rows by_cost most cutoff (inr right) (inr enough) =
    inr (inr (record {
      sweeps = right;
      reaches = enough;
      is = rw (le-ltb most (swept cutoff rows) right, le-ltb (pool cutoff rows) (most - swept cutoff rows) (omega (arith, enough))) refl;
    }))

pub kinds : (rows by_cost : List Usable) (most : ℕ) (cutoff : ℤ) → Kinds rows by_cost most cutoff
kinds rows by_cost most cutoff = kinds-step rows by_cost most cutoff (cases_lt most (swept cutoff rows)) (cases_lt (swept cutoff rows
    + pool cutoff rows) most)

-- ---- a cutoff that can be filled at

record Right (rows : List Usable) (most : ℕ) (choice : Choice) : Type 0 where
  pub at : (row : Usable) × In row rows × (row.rank ≡ choice.cutoff)
  pub sweeps : swept choice.cutoff rows ≤ most
  pub covers : below choice.cutoff choice.marginal rows ≤ most - swept choice.cutoff rows
  pub reaches : most - swept choice.cutoff rows ≤ below choice.cutoff choice.marginal rows + level choice.cutoff choice.marginal rows
  pub cost : choice.cost ≡ least_cost rows most choice.cutoff choice.marginal

-- the offer at a cutoff with a marginal
choice_at : List Usable → ℕ → ℤ → ℤ → Choice
choice_at rows most cutoff marginal = record { cutoff = cutoff; marginal = marginal; cost = least_cost rows most cutoff marginal }

right-fit : (side : OrderSide) (fees : Charges) (rows by_price by_cost : List Usable) → Table side fees rows by_price by_cost
    → (most : ℕ) (cutoff : ℤ) → (row : Usable) × In row rows × (row.rank ≡ cutoff) → IsFit rows by_cost most cutoff
    → Right rows most (choice_at rows most cutoff (share_cost cutoff (most - swept cutoff rows) (pos 0) by_cost))
unfolding choice_at
right-fit side fees rows by_price by_cost table' most cutoff at fit =
    let number = most - swept cutoff rows in
    let marginal = share_cost cutoff number (pos 0) by_cost in
    let pools = total_same (pool_part cutoff) rows by_cost table'.same_cost in
    let is = marginal_is cutoff number (pos 0) by_cost table'.ordered_cost (omega (arith, pools, fit.reaches, fit.sweeps)) in
    let belows = total_same (below_part cutoff marginal) rows by_cost table'.same_cost in
    let levels = total_same (level_part cutoff marginal) rows by_cost table'.same_cost in
    record {
      at = at;
      sweeps = fit.sweeps;
      covers = omega (arith, is.covers, belows);
      reaches = omega (arith, is.reaches, belows, levels);
      cost = refl;
    }

some-same : (one other : Choice) → Some one ≡ Some other → one ≡ other
some-same one other e = ap (λ found. unwrap_or found one) e

-- what a cutoff offers is right
right-offer : (side : OrderSide) (fees : Charges) (rows by_price by_cost : List Usable) → Table side fees rows by_price by_cost
    → (most : ℕ) (cutoff : ℤ) (choice : Choice)
    → (row : Usable) × In row rows × (row.rank ≡ cutoff) → Kinds rows by_cost most cutoff
    → candidate rows most cutoff (kind_at rows by_cost most cutoff) ≡ Some choice → Right rows most choice
unfolding Kinds choice_at
right-offer side fees rows by_price by_cost table' most cutoff choice at (inl much) e =
    absurd (false≢true (ap is_some (ap (candidate rows most cutoff) (sym much.1) ∙ e)))
right-offer side fees rows by_price by_cost table' most cutoff choice at (inr (inl little)) e =
    absurd (false≢true (ap is_some (ap (candidate rows most cutoff) (sym little.1) ∙ e)))
right-offer side fees rows by_price by_cost table' most cutoff choice at (inr (inr fit)) e =
    subst (Right rows most) (some-same (choice_at rows most cutoff (share_cost cutoff (most - swept cutoff rows) (pos 0) by_cost)) choice
    (ap (candidate rows most cutoff) (sym fit.is) ∙ e))
    (right-fit side fees rows by_price by_cost table' most cutoff at fit)

-- ---- the cuts, and what they offer

-- the row of a cut
pub record RowOf (side : OrderSide) (rows by_cost : List Usable) (most : ℕ) (cut : Cut) (row : Usable) : Type 0 where
  pub within : In row rows
  pub price : cut.price ≡ row.price
  pub rank : rank_of side cut.price ≡ row.rank
  pub kind : cut.kind ≡ kind_at rows by_cost most row.rank

pub row-of : (side : OrderSide) (fees : Charges) (rows by_price by_cost : List Usable) → Table side fees rows by_price by_cost
    → (most : ℕ) (cut : Cut) → In cut (cuts_of (kind_at rows by_cost most) by_price)
    → (row : Usable) × RowOf side rows by_cost most cut row
row-of side fees rows by_price by_cost table' most cut within =
    let at = row_of_cut (kind_at rows by_cost most) by_price cut within in
    let row = at.0 in
    let among = in_other by_price rows (IsPermutation-sym rows by_price table'.same_price) row at.1 in (
      row,
      record {
        within = among;
        price = at.2.price;
        rank = ap (rank_of side) at.2.price ∙ sym (table'.ranks row among);
        kind = at.2.kind_is;
      },
    )

-- what it offers is what its row's rank does
offers-as : (side : OrderSide) (rows by_cost : List Usable) (most : ℕ) (cut : Cut) (row : Usable) → RowOf side rows by_cost most cut row
    → offer side rows most cut ≡ candidate rows most row.rank (kind_at rows by_cost most row.rank)
offers-as side rows by_cost most cut row is = ap (λ rank. candidate rows most rank cut.kind) is.rank
    ∙ ap (candidate rows most row.rank) is.kind

-- the chosen one is right
right-step : (side : OrderSide) (fees : Charges) (rows by_price by_cost : List Usable) → Table side fees rows by_price by_cost
    → (most : ℕ) (choice : Choice)
    → Offered side rows most None (cuts_of (kind_at rows by_cost most) by_price) choice → Right rows most choice
right-step side fees rows by_price by_cost table' most choice (inl none) = absurd (false≢true (ap is_some none))
right-step side fees rows by_price by_cost table' most choice (inr at) =
    let row = row-of side fees rows by_price by_cost table' most at.0 at.1 in
    right-offer side fees rows by_price by_cost table' most row.0.rank choice (row.0, row.1.within, refl)
    (kinds rows by_cost most row.0.rank) (sym (offers-as side rows by_cost most at.0 row.0 row.1) ∙ at.2)

-- ---- what the legs fill and cost

-- the legs are those of some cutoff, fill that much and cost that much
pub record Fills (side : OrderSide) (fees : Charges) (by_price : List Usable) (most : ℕ) (cost : ℤ) (legs : List Leg) : Type 0 where
  pub cutoff : ℤ
  pub marginal : ℤ
  pub left : ℕ
  pub at : 0 < most → Any (λ row. row.rank ≡ cutoff) by_price
  pub is : legs ≡ legs_of cutoff marginal left by_price
  pub sum : sum_of legs ≡ most
  pub pays : cost_of fees side legs ≡ cost

fills-right : (side : OrderSide) (fees : Charges) (rows by_price by_cost : List Usable) → Table side fees rows by_price by_cost
    → (most : ℕ) (choice : Choice) → Right rows most choice
    → Fills side fees by_price most choice.cost (legs_chosen rows most (Some choice) by_price)
fills-right side fees rows by_price by_cost table' most choice right =
    let cutoff = choice.cutoff in
    let marginal = choice.marginal in
    let left = most - swept cutoff rows - below cutoff marginal rows in
    let legs = legs_of cutoff marginal left by_price in
    let same = table'.same_price in
    let sweeps = total_same (swept_part cutoff) rows by_price same in
    let belows = total_same (below_part cutoff marginal) rows by_price same in
    let levels = total_same (level_part cutoff marginal) rows by_price same in
    let sum : sum_of legs ≡ most = omega (
      arith,
      sum_legs cutoff marginal left by_price,
      sweeps,
      belows,
      levels,
      right.sweeps,
      right.covers,
      right.reaches,
    ) in
    let costs = cost_legs fees side cutoff marginal left by_price
    (λ row within. table'.costs row (in_other by_price rows (IsPermutation-sym rows by_price same) row within)) in
    let swept_costs = amount_same (swept_cost_part cutoff) rows by_price same in
    let saves = amount_same (savings_part cutoff marginal) rows by_price same in
    let whole : swept cutoff rows + (most - swept cutoff rows) ≡ most = omega (arith, right.sweeps) in
    record {
      cutoff = cutoff;
      marginal = marginal;
      left = left;
      at = λ some. Any-In (λ (row : Usable). row.rank ≡ cutoff) by_price right.at.0 (in_other rows by_price same right.at.0 right.at.1)
          right.at.2;
      is = refl;
      sum = sum;
      pays = omega (
        arith,
        ints,
        costs,
        swept_costs,
        saves,
        right.cost,
        ap (λ n. marginal *ℤ pos n) sum,
        ap (λ n. marginal *ℤ pos n) sweeps,
        ap (λ n. marginal *ℤ pos n) whole,
        times-plus marginal (swept cutoff rows) (most - swept cutoff rows),
      );
    }

-- if there is a usable row, some cut offers something
fit-is : (rows by_cost : List Usable) (most : ℕ) (cutoff : ℤ) → swept cutoff rows ≤ most → most ≤ swept cutoff rows + pool cutoff rows
    → Kinds rows by_cost most cutoff → IsFit rows by_cost most cutoff
unfolding Kinds
fit-is rows by_cost most cutoff sweeps reaches (inl much) = absurd (omega (arith, sweeps, much.0))
fit-is rows by_cost most cutoff sweeps reaches (inr (inl little)) = absurd (omega (arith, reaches, little.0))
fit-is rows by_cost most cutoff sweeps reaches (inr (inr fit)) = fit

some-offer : (side : OrderSide) (fees : Charges) (rows by_price by_cost : List Usable) → Table side fees rows by_price by_cost
    → (most : ℕ) (row : Usable) → In row by_price → Fits by_price most row
    → (choice : Choice) × Offered side rows most None (cuts_of (kind_at rows by_cost most) by_price) choice
unfolding choice_at
some-offer side fees rows by_price by_cost table' most row within fits' =
    let same = table'.same_price in
    let sweeps = total_same (swept_part row.rank) rows by_price same in
    let pools = total_same (pool_part row.rank) rows by_price same in
    let fit = fit-is rows by_cost most row.rank (omega (arith, sweeps, fits'.sweeps)) (omega (arith, sweeps, pools, fits'.reaches))
    (kinds rows by_cost most row.rank) in
    let cut = cut_of_row (kind_at rows by_cost most) by_price row within in
    let other = row-of side fees rows by_price by_cost table' most cut.0 cut.1 in
    let rank : other.0.rank ≡ row.rank =
    sym other.1.rank ∙ ap (rank_of side) cut.2
    ∙ sym (table'.ranks row (in_other by_price rows (IsPermutation-sym rows by_price same) row within)) in
    let made : offer side rows most cut.0 ≡ Some (choice_at rows most row.rank (share_cost row.rank (most
    - swept row.rank rows) (pos 0) by_cost)) =
    offers-as side rows by_cost most cut.0 other.0 other.1 ∙ ap (λ rank. candidate rows most rank (kind_at rows by_cost most rank)) rank
    ∙ ap (candidate rows most row.rank) fit.is in
    (choice_at rows most row.rank (share_cost row.rank (most - swept row.rank rows) (pos 0) by_cost), inr (cut.0, cut.1, made))

-- nothing of nothing
total-nothing : (rows : List Usable) → IsPermutation rows [] → total (λ row. row.size) rows ≡ 0
unfolding total
total-nothing rows same = sym (total_same (λ (row : Usable). row.size) rows [] same)

legs-nothing : [] ≡ legs_of (pos 0) (pos 0) 0 []
unfolding legs_of
legs-nothing = refl

cost-nothing : (fees : Charges) (side : OrderSide) → cost_of fees side [] ≡ pos 0
unfolding cost_of
cost-nothing fees side = refl

none-some : (found : Option Choice) (choice : Choice) → found ≡ None → found ≡ Some choice → {X : Type 0} → X
none-some found choice none some = absurd (false≢true (ap is_some (sym none ∙ some)))

-- so the legs fill what can be filled
fills-found : (side : OrderSide) (fees : Charges) (rows by_price by_cost : List Usable) → Table side fees rows by_price by_cost
    → (asked : ℕ) (found : Option Choice)
    → chosen side rows (fillable rows asked) None (cuts_of (kind_at rows by_cost (fillable rows asked)) by_price) ≡ found
    → Fills side fees by_price (fillable rows asked) (cost_chosen found) (legs_chosen rows (fillable rows asked) found by_price)
fills-found side fees rows by_price by_cost table' asked (Some choice) e =
    let most = fillable rows asked in
    fills-right side fees rows by_price by_cost table' most choice
    (right-step side fees rows by_price by_cost table' most choice
    (chosen_offered side rows most None (cuts_of (kind_at rows by_cost most) by_price) choice e))
fills-found side fees rows [] by_cost table' asked None e =
    let none : total (λ row. row.size) rows ≡ 0 = total-nothing rows table'.same_price in
    record {
      cutoff = pos 0;
      marginal = pos 0;
      left = 0;
      at = λ some. absurd (omega (arith, none, some));
      is = legs-nothing;
      sum = omega (arith, none);
      pays = cost-nothing fees side;
    }
fills-found side fees rows (row ∷ by_price) by_cost table' asked None e =
    let most = fillable rows asked in
    let all = total_same (λ (one : Usable). one.size) rows (row ∷ by_price) table'.same_price in
    let one = fits row by_price most table'.ordered_price (omega (arith, all)) in
    let some = some-offer side fees rows (row ∷ by_price) by_cost table' most one.0 one.1 one.2 in
    let found = chosen_least side rows most None (cuts_of (kind_at rows by_cost most) (row ∷ by_price)) some.0 some.1 in
    none-some (chosen side rows most None (cuts_of (kind_at rows by_cost most) (row ∷ by_price))) found.choice e found.is

pub fills : (side : OrderSide) (fees : Charges) (rows by_price by_cost : List Usable) → Table side fees rows by_price by_cost → (asked : ℕ)
    → Fills side fees by_price (fillable rows asked)
    (cost_chosen (chosen side rows (fillable rows asked) None (cuts_of (kind_at rows by_cost (fillable rows asked)) by_price)))
    (legs_chosen rows (fillable rows asked) (chosen side rows (fillable rows asked) None
    (cuts_of (kind_at rows by_cost (fillable rows asked)) by_price)) by_price)
fills side fees rows by_price by_cost table' asked =
    fills-found side fees rows by_price by_cost table' asked
    (chosen side rows (fillable rows asked) None (cuts_of (kind_at rows by_cost (fillable rows asked)) by_price)) refl

-- ---- a lawful plan

-- a leg's quotation
quoted : (seen : Seen) (asked : Terms) (fees : Charges) (row : Usable) → In row (usable seen asked fees) → (leg : Leg) → GoesTo row leg
    → Any (λ (one : Row). (one.part ≡ leg.part) × (one.price ≡ leg.price)) (contra_rows asked.side seen)
quoted seen asked fees row within leg goes =
    let at = usable_is seen asked fees row within in
    Any-In (λ (one : Row). (one.part ≡ leg.part) × (one.price ≡ leg.price)) (contra_rows asked.side seen) at.0 at.1.within
    (ap (λ (one : Usable). one.part) (sym at.1.is) ∙ sym goes.part, ap (λ (one : Usable). one.price) (sym at.1.is) ∙ sym goes.price)

lawful : (side : OrderSide) (fees : Charges) (rows by_price by_cost : List Usable) → Table side fees rows by_price by_cost
    → (asked : ℕ) (cost : ℤ) (legs : List Leg)
    → Fills side fees by_price (fillable rows asked) cost legs → IsLawful rows asked (given_by legs)
lawful side fees rows by_price by_cost table' asked cost legs fills' =
    let same = table'.same_price in
    let apart = apart_other rows by_price same table'.apart in
    let gets : (row : Usable) → In row rows → Gets fills'.cutoff row (given_by legs row.part) =
    λ row within. subst (λ (all : List Leg). Gets fills'.cutoff row (given_by all row.part)) (sym fills'.is)
    (given_gets fills'.cutoff fills'.marginal fills'.left by_price apart row (in_other rows by_price same row within)) in
    let goes : (leg : Leg) → In leg legs → (row : Usable) × In row rows × (leg.part ≡ row.part) =
    λ leg within.
    let at = goes_to_row fills'.cutoff fills'.marginal fills'.left by_price leg (subst (In leg) fills'.is within) in
    (at.0, in_other by_price rows (IsPermutation-sym rows by_price same) at.0 at.1, at.2.part) in
    record {
      on_usable = λ part some.
          let leg = given-by legs part some in
          let at = goes leg.0 leg.1 in
          Any-In (λ (row : Usable). row.part ≡ part) rows at.0 at.1 (sym at.2 ∙ leg.2);
      within = All-In (λ (row : Usable). given_by legs row.part ≤ row.size) rows (λ row within. (gets row within).within);
      at_most = omega (arith, filled-given legs rows table'.apart goes, fills'.sum);
      swept = All-In (λ (row : Usable). 0 < given_by legs row.part → SweepsBetter rows (given_by legs) row) rows (λ row within some.
          All-In (λ (other : Usable). other.protected ≡ true → other.rank <ℤ row.rank → given_by legs other.part ≡ other.size) rows
          (λ other also protected less.
          (gets other also).sweeps (and_from other.protected (int_lt other.rank fills'.cutoff) protected
          (true-lt other.rank fills'.cutoff (omega (arith, ints, less, (gets row within).beyond some))))));
    }

pub faultless : (seen : Seen) (asked : Terms) (fees : Charges) (plan : Plan) (by_price by_cost : List Usable)
    → Table asked.side fees (usable seen asked fees) by_price by_cost
    → plan.version ≡ seen.version → plan.order ≡ asked → asked.sym ≡ seen.sym → plan.filled ≡ fillable (usable seen asked fees) asked.shares
    → Fills asked.side fees by_price (fillable (usable seen asked fees) asked.shares) plan.cost plan.legs.items
    → IsFaultless seen asked fees plan
faultless seen asked fees plan by_price by_cost table' version order symbol filled' fills' =
    let rows : List Usable = usable seen asked fees in
    let legs : List Leg = plan.legs.items in
    let same = table'.same_price in
    let apart = apart_other rows by_price same table'.apart in
    let goes : (leg : Leg) → In leg legs → (row : Usable) × In row rows × GoesTo row leg =
    λ leg within.
    let at = goes_to_row fills'.cutoff fills'.marginal fills'.left by_price leg (subst (In leg) fills'.is within) in
    (at.0, in_other by_price rows (IsPermutation-sym rows by_price same) at.0 at.1, at.2) in
    record {
      version = version;
      order = order;
      symbol = symbol;
      shares = All-In (λ (leg : Leg). 1 ≤ leg.shares) legs (λ leg within. (goes leg within).2.shares);
      prices = All-In (λ (leg : Leg). Any (λ (row : Row). (row.part ≡ leg.part) × (row.price ≡ leg.price)) (contra_rows asked.side seen))
          legs (λ leg within. let at = goes leg within in quoted seen asked fees at.0 at.1 leg at.2);
      once = IsDistinct-Apart leg_part legs (subst (Apart leg_part) (sym fills'.is)
          (legs_apart fills'.cutoff fills'.marginal fills'.left by_price apart));
      lawful = lawful asked.side fees rows by_price by_cost table' asked.shares plan.cost legs fills';
      filled = filled' ∙ sym fills'.sum;
      cost = sym fills'.pays;
    }

-- ---- the cuts

-- what the cut of a row says holds
kind-holds : (rows by_cost : List Usable) (most : ℕ) (cost cutoff : ℤ) (kind : CutKind) → kind ≡ kind_at rows by_cost most cutoff
    → IsInRange kind
    → ((choice : Choice) → candidate rows most cutoff kind ≡ Some choice → cost ≤ℤ choice.cost) → Kinds rows by_cost most cutoff
    → KindHolds rows most cost cutoff kind
unfolding Kinds choice_at
kind-holds rows by_cost most cost cutoff kind is range least (inl much) = subst (KindHolds rows most cost cutoff) (sym (is ∙ much.1)) much.0
kind-holds rows by_cost most cost cutoff kind is range least (inr (inl little)) =
    subst (KindHolds rows most cost cutoff) (sym (is ∙ little.1)) little.0
kind-holds rows by_cost most cost cutoff kind is range least (inr (inr fit)) =
    let marginal = share_cost cutoff (most - swept cutoff rows) (pos 0) by_cost in
    let same : kind ≡ Marginal marginal = is ∙ fit.is in
    let within = subst IsInRange same range in
    let bounded : IsBounded rows most cost cutoff marginal = record {
      enough = fit.sweeps;
      low = within.0;
      high = within.1;
      bound = least (choice_at rows most cutoff marginal) (ap (candidate rows most cutoff) same);
    } in
    subst (KindHolds rows most cost cutoff) (sym same) bounded

-- no cut offers less than is paid
least-paid : (found : Option Choice) (other : Choice) → IsNoDearer found other → cost_chosen found ≤ℤ other.cost
least-paid found other least = subst (λ (one : Option Choice). cost_chosen one ≤ℤ other.cost) (sym least.is) least.cost

cut-holds : (side : OrderSide) (fees : Charges) (rows by_price by_cost : List Usable) → Table side fees rows by_price by_cost
    → (most : ℕ) (cut : Cut) → In cut (cuts_of (kind_at rows by_cost most) by_price) → IsInRange cut.kind
    → KindHolds rows most (cost_chosen (chosen side rows most None (cuts_of (kind_at rows by_cost most) by_price))) (rank_of side cut.price)
    cut.kind
cut-holds side fees rows by_price by_cost table' most cut within range =
    let cuts = cuts_of (kind_at rows by_cost most) by_price in
    let found = chosen side rows most None cuts in
    let row = row-of side fees rows by_price by_cost table' most cut within in
    kind-holds rows by_cost most (cost_chosen found) (rank_of side cut.price) cut.kind
    (row.1.kind ∙ ap (kind_at rows by_cost most) (sym row.1.rank)) range
    (λ choice e. least-paid found choice (chosen_least side rows most None cuts choice (inr (cut, within, e))))
    (kinds rows by_cost most (rank_of side cut.price))

-- ---- accepted

pub accepted : (seen : Seen) (asked : Terms) (fees : Charges) (plan : Plan) (by_price by_cost : List Usable) (cuts : List Cut)
    → Table asked.side fees (usable seen asked fees) by_price by_cost
    → IsFaultless seen asked fees plan → plan.filled ≡ fillable (usable seen asked fees) asked.shares
    → cuts ≡ cuts_of (kind_at (usable seen asked fees) by_cost (fillable (usable seen asked fees) asked.shares)) by_price
    → All (λ cut. IsInRange cut.kind) cuts
    → plan.cost ≡ cost_chosen (chosen asked.side (usable seen asked fees) (fillable (usable seen asked fees) asked.shares) None cuts)
    → IsAccepted seen asked fees plan cuts
accepted seen asked fees plan by_price by_cost cuts table' is full made range paid =
    let rows : List Usable = usable seen asked fees in
    let most : ℕ = fillable rows asked.shares in
    let kind : ℤ → CutKind = kind_at rows by_cost most in
    let same = table'.same_price in
    record {
      faultless = is;
      full = full;
      each_price = All-In (λ (row : Usable). Any (λ (cut : Cut). cut.price ≡ row.price) cuts) rows (λ row within.
          let cut = cut_of_row kind by_price row (in_other rows by_price same row within) in
          Any-In (λ (one : Cut). one.price ≡ row.price) cuts cut.0 (subst (In cut.0) (sym made) cut.1) cut.2);
      no_other = All-In (λ (cut : Cut). Any (λ (row : Usable). row.price ≡ cut.price) rows) cuts (λ cut within.
          let row = row-of asked.side fees rows by_price by_cost table' most cut (subst (In cut) made within) in
          Any-In (λ (one : Usable). one.price ≡ cut.price) rows row.0 row.1.within (sym row.1.price));
      best_first = subst (AllPairs (λ (cut later : Cut). is_better asked.side cut.price later.price ≡ true)) (sym made)
          (best_first (λ (cut : Cut). cut.price) (cut_at kind) (λ row. refl) asked.side by_price
          (λ row within. table'.ranks row (in_other by_price rows (IsPermutation-sym rows by_price same) row within))
          table'.ordered_price);
      holds = All-In (λ (cut : Cut). KindHolds rows most plan.cost (rank_of asked.side cut.price) cut.kind) cuts (λ cut within.
          subst (λ cost. KindHolds rows most cost (rank_of asked.side cut.price) cut.kind)
          (sym (paid ∙ ap (λ (all : List Cut). cost_chosen (chosen asked.side rows most None all)) made))
          (cut-holds asked.side fees rows by_price by_cost table' most cut (subst (In cut) made within)
          (In-All (λ (one : Cut). IsInRange one.kind) cuts range cut within)));
    }

-- ---- what the planner goes through, of one view

-- the rows in both orders, the cuts and the choice
pub record Found (seen : Seen) (asked : Terms) (fees : Charges) (by_price by_cost : List Usable) (cuts : List Cut) (most : ℕ)
    (found : Option Choice) : Type 0 where
  pub rows : Table asked.side fees (usable seen asked fees) by_price by_cost
  pub fillable_is : most ≡ fillable (usable seen asked fees) asked.shares
  pub cuts_are : cuts ≡ cuts_of (kind_at (usable seen asked fees) by_cost (fillable (usable seen asked fees) asked.shares)) by_price
  pub found_is : found ≡ chosen asked.side (usable seen asked fees) (fillable (usable seen asked fees) asked.shares) None cuts

-- by place they rise
pub rising : (side : OrderSide) (seen : Seen) → AreRows seen.bids → AreRows seen.offers
    → IsStrictlyIncreasing (map (λ row. row.part) (contra_rows side seen))
rising Buy seen bids offers = offers.rising
rising Sell seen bids offers = bids.rising

cut-with : ℕ → CutKind → Cut
cut-with price kind = record { price = price; kind = kind }

-- the cuts of the cutoffs are those of the prices
cuts-made : (side : OrderSide) (fees : Charges) (rows by_price by_cost : List Usable) → Table side fees rows by_price by_cost → (most : ℕ)
    → map (cut_by side by_cost most) (cutoffs_of by_price by_price) ≡ cuts_of (kind_at rows by_cost most) by_price
unfolding cut-with
cuts-made side fees rows by_price by_cost table' most =
    let same = table'.same_price in
    map_per_price (cut_by side by_cost most) (cutoff_at by_price) (cut_at (kind_at rows by_cost most)) by_price (λ row within.
    let rank = table'.ranks row (in_other by_price rows (IsPermutation-sym rows by_price same) row within) in
    ap (cut-with row.price)
    (ap (λ cutoff. kind_by by_cost most cutoff (swept row.rank by_price) (pool row.rank by_price)) (sym rank)
    ∙ ap (λ n. kind_by by_cost most row.rank n (pool row.rank by_price)) (total_same (swept_part row.rank) rows by_price same)
    ∙ ap (kind_by by_cost most row.rank (swept row.rank rows)) (total_same (pool_part row.rank) rows by_price same)))

-- the same for slices that show the rows
pub found_from : (seen : Seen) (asked : Terms) (fees : Charges) (terms : Terms) (first again costs : List Usable) (coming : List Cutoff)
    (by_price by_cost : List Usable) (cuts : List Cut) (most : ℕ) (found : Option Choice)
    → terms ≡ asked → AreRows seen.bids → AreRows seen.offers → IsPermutation (usable seen asked fees) by_price → IsByPrice by_price
    → coming ≡ cutoffs_of by_price by_price
    → first ≡ by_price → again ≡ by_price → costs ≡ by_cost → IsPermutation again by_cost → IsOrdered Cost by_cost
    → most ≡ fillable first terms.shares → cuts ≡ map (cut_by terms.side costs most) coming
    → found ≡ chosen terms.side costs most None (map (cut_by terms.side costs most) coming)
    → Found seen asked fees by_price by_cost cuts most found
found_from seen asked fees terms first again costs coming by_price by_cost cuts most found same bids offers rows_same ordered comes one two
    cheap cost_same cheapest count made choice =
    let usables : List Usable = usable seen asked fees in
    let rows = table seen asked fees by_price by_cost (rising asked.side seen bids offers) rows_same ordered
    (subst (λ (some : List Usable). IsPermutation some by_cost) two cost_same) cheapest in
    let count' : most ≡ fillable usables asked.shares =
    count ∙ ap (λ (some : List Usable). fillable some terms.shares) one ∙ ap (λ (some : Terms). fillable by_price some.shares) same
    ∙ fillable_same usables by_price rows_same asked.shares in
    record {
      rows = rows;
      fillable_is = count';
      cuts_are = made ∙ ap (map (cut_by terms.side costs most)) comes
          ∙ ap (λ (some : List Usable). map (cut_by terms.side some most) (cutoffs_of by_price by_price)) cheap
          ∙ ap (λ (some : Terms). map (cut_by some.side by_cost most) (cutoffs_of by_price by_price)) same
          ∙ cuts-made asked.side fees usables by_price by_cost rows most
          ∙ ap (λ n. cuts_of (kind_at usables by_cost n) by_price) count';
      found_is = choice ∙ ap (chosen terms.side costs most None) (sym made)
          ∙ ap (λ (some : List Usable). chosen terms.side some most None cuts) cheap
          ∙ ap (λ (some : Terms). chosen some.side by_cost most None cuts) same
          ∙ chosen_same asked.side usables by_cost rows.same_cost most None cuts ∙ ap (λ n. chosen asked.side usables n None cuts) count';
    }

pub legs_found : (seen : Seen) (asked : Terms) (fees : Charges) (by_price by_cost : List Usable) (cuts : List Cut) (most : ℕ)
    (found : Option Choice) → Found seen asked fees by_price by_cost cuts most found
    → Fills asked.side fees by_price (fillable (usable seen asked fees) asked.shares) (cost_chosen found)
    (legs_chosen (usable seen asked fees) most found by_price)
legs_found seen asked fees by_price by_cost cuts most found is =
    let rows : List Usable = usable seen asked fees in
    let count : ℕ = fillable rows asked.shares in
    let all : List Cut = cuts_of (kind_at rows by_cost count) by_price in
    let here : found ≡ chosen asked.side rows count None all = is.found_is ∙ ap (chosen asked.side rows count None) is.cuts_are in
    let made = fills asked.side fees rows by_price by_cost is.rows asked.shares in
    let moved = subst (λ (one : Option Choice). Fills asked.side fees by_price count (cost_chosen one)
    (legs_chosen rows count one by_price)) (sym here) made in
    subst (λ n. Fills asked.side fees by_price count (cost_chosen found) (legs_chosen rows n found by_price)) (sym is.fillable_is) moved
