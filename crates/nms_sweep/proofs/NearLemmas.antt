-- At a price at which no more has to be swept than can be filled, the rows that are reached give the cut and the cost
-- that all rows give: the others are at worse prices.
use Rattle.std.proofs.Common.{ℕ, ◌≡◌, ◌<◌, ◌≤◌, ◌+◌, ◌-◌, ◌++◌, ◌&&◌, ◌⊎◌, inl, inr, true, false, List, [], ◌∷◌, All, Any, Option, Some}
use Rattle.std.proofs.Common.{None, length, map}
use Rattle.std.proofs.Common.{take, drop, get_or, refl, ap, sym, ◌∙◌, subst, arith, nat_le}
use Rattle.std.specs.Prelude.{ℤ, pos, ◌<ℤ◌, ◌≤ℤ◌}
use Rattle.std.specs.List.Sorted.{IsPermutation}
use Rattle.std.proofs.lemmas.Bool.{both_ways, cases_Bool, cases_lt, cond-false, cond-true, le-ltb, lt-ltb}
use Rattle.std.proofs.lemmas.Int.{ints}
use Rattle.std.proofs.lemmas.List.{drop_more, length-append, take-append-drop}
use Rattle.std.proofs.lemmas.List.Elements.{All-from_recursion, recursion_from_All}
use Rattle.std.proofs.lemmas.List.Sorted.{IsPermutation-sym}
use Rattle.nms_quote.specs.Terms.{Terms}
use Rattle.nms_quote.specs.declared.certificate.Cut.{Cut}
use Rattle.nms_quote.specs.declared.certificate.CutKind.TheVariants.{Marginal}
use Rattle.nms_quote.specs.declared.order.OrderSide.{OrderSide}
use Rattle.nms_board.specs.View.{AreRows, Seen}
use Rattle.nms_fee_book.specs.Fees.{Charges}
use Rattle.nms_rules.specs.Assignment.{amount, fillable, total}
use Rattle.nms_rules.specs.Cutoff.{is_pooled, least_cost, pool, pool_part, savings_part, swept, swept_cost_part, swept_part}
use Rattle.nms_rules.specs.Usable.{Usable, rank_of, usable}
use Rattle.nms_rules.proofs.Offered.{All-In, In, In-All, In-Any, Passes, cases_int, cost-not, places, pool-not, swept-not, true-lt}
use Rattle.nms_sweep.specs.Choice.{below, below_part, candidate, cheaper, chosen, cut_by, kind_by, share_cost}
use Rattle.nms_sweep.specs.Cutoffs.{AreCutoffs, IsCutoffOf, cutoffs_of}
use Rattle.nms_sweep.specs.Order.{IsByPrice, IsOrdered, StopAt}
use Rattle.nms_sweep.specs.Passed.{protected_part}
use Rattle.nms_sweep.specs.declared.choice.Choice.{Choice}
use Rattle.nms_sweep.specs.declared.cutoffs.Cutoff.{Cutoff}
use Rattle.nms_sweep.specs.declared.row_order.Key.TheVariants.{Cost, Price}
use Rattle.nms_sweep.proofs.ExactLemmas.{HasPooled, cost_of_number, later-cases, own-step}
use Rattle.nms_sweep.proofs.FitLemmas.{within-push}
use Rattle.nms_sweep.proofs.FrontLemmas.{AreBeyond, passes}
use Rattle.nms_sweep.proofs.LegLemmas.{level}
use Rattle.nms_sweep.proofs.MarginalLemmas.{marginal_is}
use Rattle.nms_sweep.proofs.OrderLemmas.{NoLess, Ordered, all_by_cost, in_order_from, ordered_all, ordered_from, same_all}
use Rattle.nms_sweep.proofs.PlanLemmas.{Found, found_from, in_other, rising, table}
use Rattle.nms_sweep.proofs.TakenLemmas.{choice_of}
use Rattle.nms_sweep.proofs.TierLemmas.{Above, Below, Beyond, Level, Swept, Tier, level_part, tier}
use Rattle.nms_sweep.proofs.TotalLemmas.{amount_append, amount_same, total_append, total_same}
use Rattle.nms_sweep.proofs.WalkLemmas.{least-before, near-sums, next_row}

-- ---- which rows are reached

beyond-nearer : (near far : ℤ) (rows : List Usable) → near ≤ℤ far → AreBeyond far rows → AreBeyond near rows
beyond-nearer near far [] order each = tt
beyond-nearer near far (row ∷ rows) order each = (omega (arith, ints, order, each.0), beyond-nearer near far rows order each.1)

-- what is protected up to a row must be swept at each worse price
protected-swept : (cutoff : ℤ) (rows : List Usable) (at : ℕ) (row : Usable) → IsByPrice rows → at < length rows → row ≡ get_or rows at row
    → row.rank <ℤ cutoff → total protected_part (take (at + 1) rows) ≤ swept cutoff rows
protected-swept cutoff rows at row is below own less =
    let later : List Usable = drop (at + 1) rows in
    let left : drop at rows ≡ row ∷ later = drop_more rows at row below ∙ ap (λ (one : Usable). one ∷ later) (sym own) in
    let next = next_row rows at row later below left in
    let ordered : Ordered Price (take at rows ++ row ∷ later) =
    subst (Ordered Price) next.all (ordered_from Price rows (in_order_from Price rows is)) in
    let near = within-push row.rank (take at rows) row (least-before (take at rows) row later ordered) (omega (arith, ints)) in
    let sums = near-sums row.rank cutoff (take at rows ++ row ∷ []) less near in
    omega (
      arith,
      sums.0,
      ap (total protected_part) next.taken,
      ap (swept cutoff) next.taken,
      ap (swept cutoff) (take-append-drop (at + 1) rows),
      total_append (swept_part cutoff) (take (at + 1) rows) later,
    )

pub reach : (cutoff : ℤ) (most sum : ℕ) (rows some : List Usable) (at : ℕ) (row : Usable) → IsByPrice rows → at < length rows
    → row ≡ get_or rows at row → sum ≡ total protected_part (take (at + 1) rows) → most < sum → StopAt row.rank rows some
    → swept cutoff rows ≤ most → StopAt cutoff rows some
reach cutoff most sum rows some at row is below own count over stop fits = (
  stop.0,
  stop.1,
  All-from_recursion (λ (one : Usable). cutoff <ℤ one.rank) stop.0
      (beyond-nearer cutoff row.rank stop.0 (step (cases_int row.rank cutoff))
      (recursion_from_All (λ (one : Usable). row.rank <ℤ one.rank) stop.0 stop.2)),
)
  where
    step : (row.rank <ℤ cutoff) ⊎ (cutoff ≤ℤ row.rank) → cutoff ≤ℤ row.rank
    step (inl less) =
        let swept_more = protected-swept cutoff rows at row is below own less in absurd (omega (arith, over, count, fits, swept_more))
    step (inr near) = near

-- the same for the same rows
pub reach_of : (most : ℕ) (one rows some : List Usable) → one ≡ rows → ((cutoff : ℤ) → swept cutoff one ≤ most → StopAt cutoff one some)
    → (cutoff : ℤ) → swept cutoff rows ≤ most → StopAt cutoff rows some
reach_of most one rows some same reach cutoff fits =
    subst (λ (it : List Usable). StopAt cutoff it some) same (reach cutoff (omega (arith, fits, ap (swept cutoff) same)))

-- some of the rows are no more than all of them
pub few_reached : (cutoff : ℤ) (rows some : List Usable) → StopAt cutoff rows some → length some ≤ length rows
few_reached cutoff rows some stop = omega (arith, ap length stop.1, length-append some stop.0)

-- ---- sums over the rows that are reached

none-total : (cutoff : ℤ) (part : Usable → ℕ) (rows : List Usable) → ((row : Usable) → Passes cutoff row → part row ≡ 0)
    → AreBeyond cutoff rows → total part rows ≡ 0
unfolding total
none-total cutoff part [] none each = refl
none-total cutoff part (row ∷ rows) none each =
    omega (arith, none row (passes cutoff row each.0), none-total cutoff part rows none each.1)

none-amount : (cutoff : ℤ) (part : Usable → ℤ) (rows : List Usable) → ((row : Usable) → Passes cutoff row → part row ≡ pos 0)
    → AreBeyond cutoff rows → amount part rows ≡ pos 0
unfolding amount
none-amount cutoff part [] none each = refl
none-amount cutoff part (row ∷ rows) none each =
    omega (arith, ints, none row (passes cutoff row each.0), none-amount cutoff part rows none each.1)

near-total : (cutoff : ℤ) (part : Usable → ℕ) (rows some near : List Usable) → ((row : Usable) → Passes cutoff row → part row ≡ 0)
    → StopAt cutoff rows some → IsPermutation some near → total part near ≡ total part rows
near-total cutoff part rows some near none stop same =
    omega (
      arith,
      total_same part some near same,
      ap (total part) stop.1,
      total_append part some stop.0,
      none-total cutoff part stop.0 none (recursion_from_All (λ (row : Usable). cutoff <ℤ row.rank) stop.0 stop.2),
    )

near-amount : (cutoff : ℤ) (part : Usable → ℤ) (rows some near : List Usable) → ((row : Usable) → Passes cutoff row → part row ≡ pos 0)
    → StopAt cutoff rows some → IsPermutation some near → amount part near ≡ amount part rows
near-amount cutoff part rows some near none stop same =
    omega (
      arith,
      ints,
      amount_same part some near same,
      ap (amount part) stop.1,
      amount_append part some stop.0,
      none-amount cutoff part stop.0 none (recursion_from_All (λ (row : Usable). cutoff <ℤ row.rank) stop.0 stop.2),
    )

no-below : (cutoff cost : ℤ) (row : Usable) → Passes cutoff row → below_part cutoff cost row ≡ 0
no-below cutoff cost row at = rw at.pooled refl

no-level : (cutoff cost : ℤ) (row : Usable) → Passes cutoff row → level_part cutoff cost row ≡ 0
unfolding level_part
no-level cutoff cost row at = rw at.pooled refl

no-savings : (cutoff cost : ℤ) (row : Usable) → Passes cutoff row → savings_part cutoff cost row ≡ pos 0
no-savings cutoff cost row at = rw at.pooled refl

-- ---- which rows are in the pool

in-left : (one : Usable) (some others : List Usable) → In one some → In one (some ++ others)
in-left one [] others within = absurd within
in-left one (first ∷ some) others (inl e) = inl e
in-left one (first ∷ some) others (inr within) = inr (in-left one some others within)

in-either : (one : Usable) (some others : List Usable) → In one (some ++ others) → In one some ⊎ In one others
in-either one [] others within = inr within
in-either one (first ∷ some) others (inl e) = inl (inl e)
in-either one (first ∷ some) others (inr within) = more (in-either one some others within)
  where
    more : In one some ⊎ In one others → In one (first ∷ some) ⊎ In one others
    more (inl here) = inl (inr here)
    more (inr there) = inr there

in-near : (cutoff : ℤ) (rows some near : List Usable) → StopAt cutoff rows some → IsPermutation some near → (one : Usable) → In one rows
    → is_pooled cutoff one ≡ true → In one near
in-near cutoff rows some near stop same one within pooled =
    in_other some near same one (step (in-either one some stop.0 (subst (In one) stop.1 within)))
  where
    step : In one some ⊎ In one stop.0 → In one some
    step (inl here) = here
    step (inr there) =
        let far = In-All (λ (row : Usable). cutoff <ℤ row.rank) stop.0 stop.2 one there in
        absurd (both_ways (is_pooled cutoff one) (passes cutoff one far).pooled pooled)

in-rows : (cutoff : ℤ) (rows some near : List Usable) → StopAt cutoff rows some → IsPermutation some near → (one : Usable) → In one near
    → In one rows
in-rows cutoff rows some near stop same one within =
    subst (In one) (sym stop.1) (in-left one some stop.0 (in_other near some (IsPermutation-sym some near same) one within))

-- ---- what a share costs

later-no_less : (row : Usable) (rows : List Usable) → NoLess Cost row rows → (one : Usable) → In one rows → row.cost ≤ℤ one.cost
later-no_less row [] each one within = absurd within
later-no_less row (later ∷ rows) each one (inl e) = omega (arith, ints, each.0, ap (λ (other : Usable). other.cost) e)
later-no_less row (later ∷ rows) each one (inr within) = later-no_less row rows each.1 one within

-- for number 0, no more than any row of the pool
least-of-none : (cutoff : ℤ) (number : ℕ) (last : ℤ) (rows : List Usable) → Ordered Cost rows → number ≡ 0 → (one : Usable) → In one rows
    → is_pooled cutoff one ≡ true → share_cost cutoff number last rows ≤ℤ one.cost
unfolding share_cost
least-of-none cutoff number last [] ordered none one within pooled = absurd within
least-of-none cutoff number last (row ∷ rows) ordered none one within pooled =
    step (λ more. least-of-none cutoff (number - pool_part cutoff row) row.cost rows ordered.1 (omega (arith, none)) one more pooled) within
    (cases_Bool (is_pooled cutoff row && nat_le number row.size))
  where
    here : (is_pooled cutoff row && nat_le number row.size ≡ true) → share_cost cutoff number last (row ∷ rows) ≡ row.cost
    here e = cond-true (is_pooled cutoff row && nat_le number row.size) row.cost
        (share_cost cutoff (number - pool_part cutoff row) row.cost rows) e

    out : (is_pooled cutoff row ≡ false) ⊎ ((is_pooled cutoff row ≡ true) × (row.size < number)) → is_pooled cutoff row ≡ false
    out (inl e) = e
    out (inr over) = let less = over.1 in absurd (omega (arith, less, none))

    step : (In one rows → share_cost cutoff (number - pool_part cutoff row) row.cost rows ≤ℤ one.cost)
        → (one ≡ row) ⊎ In one rows → (is_pooled cutoff row && nat_le number row.size ≡ true)
        ⊎ (is_pooled cutoff row && nat_le number row.size ≡ false) → share_cost cutoff number last (row ∷ rows) ≤ℤ one.cost
    step rest (inl same) (inl e) = omega (arith, ints, here e, ap (λ (other : Usable). other.cost) same)
    step rest (inr more) (inl e) = omega (arith, ints, here e, later-no_less row rows ordered.0 one more)
    step rest (inl same) (inr e) =
        absurd (both_ways (is_pooled cutoff row) (out (later-cases cutoff number row e (cases_Bool (is_pooled cutoff row))))
        (subst (λ (other : Usable). is_pooled cutoff other ≡ true) same pooled))
    step rest (inr more) (inr e) =
        subst (λ cost. cost ≤ℤ one.cost)
        (sym (cond-false (is_pooled cutoff row && nat_le number row.size) row.cost
        (share_cost cutoff (number - pool_part cutoff row) row.cost rows) e)) (rest more)

-- what costs no more than one cost is below a higher one
level-below : (cutoff cost more : ℤ) (row : Usable) → cost <ℤ more → Tier cutoff cost row
    → below_part cutoff cost row + level_part cutoff cost row ≤ below_part cutoff more row
unfolding Tier Swept Below Level Above Beyond level_part
level-below cutoff cost more row less (inl at) = rw (at.level, at.below) (omega arith)
level-below cutoff cost more row less (inr (inl at)) =
    rw (at.0.level, at.0.below, at.0.pooled, true-lt row.cost more (omega (arith, ints, at.1, less))) (omega arith)
level-below cutoff cost more row less (inr (inr (inl at))) =
    rw (at.0.level, at.0.below, at.0.pooled, true-lt row.cost more (omega (arith, ints, at.1, less))) (omega arith)
level-below cutoff cost more row less (inr (inr (inr (inl at)))) = rw (at.0.level, at.0.below) (omega arith)
level-below cutoff cost more row less (inr (inr (inr (inr at)))) = rw (at.0.level, at.0.below) (omega arith)

levels-below : (cutoff cost more : ℤ) (rows : List Usable) → cost <ℤ more
    → below cutoff cost rows + level cutoff cost rows ≤ below cutoff more rows
unfolding total
levels-below cutoff cost more [] less = omega arith
levels-below cutoff cost more (row ∷ rows) less =
    omega (arith, level-below cutoff cost more row less (tier cutoff cost row), levels-below cutoff cost more rows less)

-- two lists that have the same in the pool
record HasNoMore (cutoff : ℤ) (one other : List Usable) : Type 0 where
  pub below : (cost : ℤ) → below cutoff cost one ≡ below cutoff cost other
  pub level : (cost : ℤ) → level cutoff cost one ≡ level cutoff cost other
  pub within : (row : Usable) → In row other → is_pooled cutoff row ≡ true → In row one

no-dearer : (cutoff : ℤ) (number : ℕ) (one other : List Usable) → Ordered Cost one → Ordered Cost other → number ≤ pool cutoff one
    → number ≤ pool cutoff other → HasPooled cutoff one → HasPooled cutoff other → HasNoMore cutoff one other
    → share_cost cutoff number (pos 0) one ≤ℤ share_cost cutoff number (pos 0) other
no-dearer cutoff number one other first second few enough pooled also same = step (cases_int least cost)
  where
    cost : ℤ
    cost = share_cost cutoff number (pos 0) one

    least : ℤ
    least = share_cost cutoff number (pos 0) other

    over : least <ℤ cost → (0 < number) ⊎ (number ≤ 0) → ⊥
    over less (inl some) =
        let is = cost_of_number cutoff number (pos 0) one first few pooled in
        let at = marginal_is cutoff number (pos 0) other second enough in
        omega (
          arith,
          some,
          is.fewer,
          at.reaches,
          same.below least,
          same.level least,
          levels-below cutoff least cost one less,
        )
    over less (inr none) =
        let is = cost_of_number cutoff number (pos 0) other second enough also in
        let row = is.some.0 in
        let here = same.within row is.some.1 is.some.2 in
        let cheap = least-of-none cutoff number (pos 0) one first (omega (arith, none)) row here is.some.2 in
        omega (arith, ints, less, cheap, is.some.3)

    step : (least <ℤ cost) ⊎ (cost ≤ℤ least) → cost ≤ℤ least
    step (inl less) = absurd (over less (cases_lt 0 number))
    step (inr no_more) = no_more

-- ---- at a cutoff

-- the rows that are reached, and all rows, both in the order of their costs
pub record AreReached (side : OrderSide) (most : ℕ) (rows some near all : List Usable) : Type 0 where
  pub reach : (cutoff : ℤ) → swept cutoff rows ≤ most → StopAt cutoff rows some
  pub same_near : IsPermutation some near
  pub same_all : IsPermutation rows all
  pub first : Ordered Cost near
  pub second : Ordered Cost all

-- a cutoff with its sums, at which some row is in the pool
pub record IsCutoffAt (side : OrderSide) (rows : List Usable) (cutoff : Cutoff) : Type 0 where
  pub sums : IsCutoffOf side rows cutoff
  pub row : Usable
  pub within : In row rows
  pub pooled : is_pooled (rank_of side cutoff.price) row ≡ true

same-share : (side : OrderSide) (most : ℕ) (rows some near all : List Usable) → AreReached side most rows some near all
    → (cutoff : Cutoff) → IsCutoffAt side rows cutoff → cutoff.swept ≤ most → most - cutoff.swept ≤ cutoff.pool
    → share_cost (rank_of side cutoff.price) (most - cutoff.swept) (pos 0) near
    ≡ share_cost (rank_of side cutoff.price) (most - cutoff.swept) (pos 0) all
unfolding HasPooled
same-share side most rows some near all is cutoff at fits reaches =
    let rank = rank_of side cutoff.price in
    let number = most - cutoff.swept in
    let stop = is.reach rank (omega (arith, fits, at.sums.swept)) in
    let few : number ≤ pool rank near =
    omega (
      arith,
      reaches,
      at.sums.pool,
      near-total rank (pool_part rank) rows some near (λ row far. pool-not rank row far.pooled) stop is.same_near,
    ) in
    let enough : number ≤ pool rank all = omega (arith, reaches, at.sums.pool, total_same (pool_part rank) rows all is.same_all) in
    let belows : (cost : ℤ) → below rank cost near ≡ below rank cost all =
    λ cost. near-total rank (below_part rank cost) rows some near (no-below rank cost) stop is.same_near
    ∙ sym (total_same (below_part rank cost) rows all is.same_all) in
    let levels : (cost : ℤ) → level rank cost near ≡ level rank cost all =
    λ cost. near-total rank (level_part rank cost) rows some near (no-level rank cost) stop is.same_near
    ∙ sym (total_same (level_part rank cost) rows all is.same_all) in
    let first : HasPooled rank near = (at.row, in-near rank rows some near stop is.same_near at.row at.within at.pooled, at.pooled) in
    let second : HasPooled rank all = (at.row, in_other rows all is.same_all at.row at.within, at.pooled) in
    let back : IsPermutation all rows = IsPermutation-sym rows all is.same_all in
    let low = no-dearer rank number near all is.first is.second few enough first second (record {
      below = belows;
      level = levels;
      within = λ row within pooled. in-near rank rows some near stop is.same_near row (in_other all rows back row within) pooled;
    }) in
    let high = no-dearer rank number all near is.second is.first enough few second first (record {
      below = λ cost. sym (belows cost);
      level = λ cost. sym (levels cost);
      within = λ row within pooled. in_other rows all is.same_all row (in-rows rank rows some near stop is.same_near row within);
    }) in
    omega (arith, ints, low, high)

least-near : (side : OrderSide) (most : ℕ) (rows some near all : List Usable) → AreReached side most rows some near all
    → (rank marginal : ℤ) → swept rank rows ≤ most → least_cost near most rank marginal ≡ least_cost all most rank marginal
least-near side most rows some near all is rank marginal fits =
    let stop = is.reach rank fits in
    let one = near-total rank (swept_part rank) rows some near (λ row far. swept-not rank row far.is) stop is.same_near in
    let two = near-amount rank (swept_cost_part rank) rows some near (λ row far. cost-not rank row far.is) stop is.same_near in
    let three = near-amount rank (savings_part rank marginal) rows some near (no-savings rank marginal) stop is.same_near in
    rw (
      one ∙ sym (total_same (swept_part rank) rows all is.same_all),
      two ∙ sym (amount_same (swept_cost_part rank) rows all is.same_all),
      three ∙ sym (amount_same (savings_part rank marginal) rows all is.same_all),
    ) refl

kind-same : (side : OrderSide) (most : ℕ) (rows some near all : List Usable) → AreReached side most rows some near all
    → (cutoff : Cutoff) → IsCutoffAt side rows cutoff
    → kind_by near most (rank_of side cutoff.price) cutoff.swept cutoff.pool
    ≡ kind_by all most (rank_of side cutoff.price) cutoff.swept cutoff.pool
kind-same side most rows some near all is cutoff at = first (cases_lt most cutoff.swept)
  where
    second : cutoff.swept ≤ most → (cutoff.pool < most - cutoff.swept) ⊎ (most - cutoff.swept ≤ cutoff.pool)
        → kind_by near most (rank_of side cutoff.price) cutoff.swept cutoff.pool
        ≡ kind_by all most (rank_of side cutoff.price) cutoff.swept cutoff.pool
    second fits (inl little) = rw (le-ltb most cutoff.swept fits, lt-ltb cutoff.pool (most - cutoff.swept) little) refl
    second fits (inr reaches) = rw (le-ltb most cutoff.swept fits, le-ltb cutoff.pool (most - cutoff.swept) reaches)
        (ap Marginal (same-share side most rows some near all is cutoff at fits reaches))

    first : (most < cutoff.swept) ⊎ (cutoff.swept ≤ most) → kind_by near most (rank_of side cutoff.price) cutoff.swept cutoff.pool
        ≡ kind_by all most (rank_of side cutoff.price) cutoff.swept cutoff.pool
    first (inl much) = rw (lt-ltb most cutoff.swept much) refl
    first (inr fits) = second fits (cases_lt cutoff.pool (most - cutoff.swept))

offer-same : (side : OrderSide) (most : ℕ) (rows some near all : List Usable) → AreReached side most rows some near all
    → (cutoff : Cutoff) → IsCutoffAt side rows cutoff
    → candidate near most (rank_of side cutoff.price) (kind_by all most (rank_of side cutoff.price) cutoff.swept cutoff.pool)
    ≡ candidate all most (rank_of side cutoff.price) (kind_by all most (rank_of side cutoff.price) cutoff.swept cutoff.pool)
offer-same side most rows some near all is cutoff at = first (cases_lt most cutoff.swept)
  where
    rank : ℤ
    rank = rank_of side cutoff.price

    Same : Type 0
    Same = candidate near most (rank_of side cutoff.price) (kind_by all most (rank_of side cutoff.price) cutoff.swept cutoff.pool)
        ≡ candidate all most (rank_of side cutoff.price) (kind_by all most (rank_of side cutoff.price) cutoff.swept cutoff.pool)

    second : cutoff.swept ≤ most → (cutoff.pool < most - cutoff.swept) ⊎ (most - cutoff.swept ≤ cutoff.pool) → Same
    second fits (inl little) = rw (le-ltb most cutoff.swept fits, lt-ltb cutoff.pool (most - cutoff.swept) little) refl
    second fits (inr reaches) =
        let marginal = share_cost rank (most - cutoff.swept) (pos 0) all in
        rw (le-ltb most cutoff.swept fits, le-ltb cutoff.pool (most - cutoff.swept) reaches)
        (ap (λ cost. Some (choice_of rank marginal cost))
        (least-near side most rows some near all is rank marginal (omega (arith, fits, at.sums.swept))))

    first : (most < cutoff.swept) ⊎ (cutoff.swept ≤ most) → Same
    first (inl much) = rw (lt-ltb most cutoff.swept much) refl
    first (inr fits) = second fits (cases_lt cutoff.pool (most - cutoff.swept))

-- ---- all cutoffs

pub cuts_same : (side : OrderSide) (most : ℕ) (rows some near all : List Usable) → AreReached side most rows some near all
    → (coming : List Cutoff) → ((cutoff : Cutoff) → In cutoff coming → IsCutoffAt side rows cutoff)
    → map (cut_by side near most) coming ≡ map (cut_by side all most) coming
cuts_same side most rows some near all is [] each = refl
cuts_same side most rows some near all is (cutoff ∷ coming) each =
    ap (λ kind. record { price = cutoff.price; kind = kind } ∷ map (cut_by side near most) coming)
    (kind-same side most rows some near all is cutoff (each cutoff (inl refl)))
    ∙ ap (λ (cuts : List Cut). cut_by side all most cutoff ∷ cuts)
    (cuts_same side most rows some near all is coming (λ one within. each one (inr within)))

pub choice_near : (side : OrderSide) (most : ℕ) (rows some near all : List Usable) → AreReached side most rows some near all
    → (coming : List Cutoff) → ((cutoff : Cutoff) → In cutoff coming → IsCutoffAt side rows cutoff) → (best : Option Choice)
    → chosen side near most best (map (cut_by side all most) coming) ≡ chosen side all most best (map (cut_by side all most) coming)
unfolding chosen
choice_near side most rows some near all is [] each best = refl
choice_near side most rows some near all is (cutoff ∷ coming) each best =
    ap (λ (offer : Option Choice). chosen side near most (cheaper best offer) (map (cut_by side all most) coming))
    (offer-same side most rows some near all is cutoff (each cutoff (inl refl)))
    ∙ choice_near side most rows some near all is coming (λ one within. each one (inr within))
    (cheaper best (candidate all most (rank_of side cutoff.price)
    (kind_by all most (rank_of side cutoff.price) cutoff.swept cutoff.pool)))

-- the cutoffs have the sums of the rows that are reached, where no more has to be swept than can be filled
pub sums_near : (side : OrderSide) (most : ℕ) (rows by_price some near : List Usable) (cutoffs : List Cutoff) → IsPermutation rows by_price
    → ((cutoff : ℤ) → swept cutoff by_price ≤ most → StopAt cutoff by_price some) → IsPermutation some near
    → AreCutoffs side rows cutoffs → All (λ cutoff. cutoff.swept ≤ most → IsCutoffOf side near cutoff) cutoffs
sums_near side most rows by_price some near cutoffs one reach two are =
    All-In (λ (cutoff : Cutoff). cutoff.swept ≤ most → IsCutoffOf side near cutoff) cutoffs (λ cutoff within fits.
    let is = In-All (λ (it : Cutoff). IsCutoffOf side rows it) cutoffs are.sums cutoff within in
    let rank = rank_of side cutoff.price in
    let stop = reach rank (omega (arith, fits, is.swept, total_same (swept_part rank) rows by_price one)) in
    record {
      swept = is.swept ∙ sym (near-total rank (swept_part rank) by_price some near (λ row far. swept-not rank row far.is) stop two
          ∙ total_same (swept_part rank) rows by_price one);
      swept_cost = is.swept_cost
          ∙ sym (near-amount rank (swept_cost_part rank) by_price some near (λ row far. cost-not rank row far.is) stop two
          ∙ amount_same (swept_cost_part rank) rows by_price one);
      pool = is.pool ∙ sym (near-total rank (pool_part rank) by_price some near (λ row far. pool-not rank row far.pooled) stop two
          ∙ total_same (pool_part rank) rows by_price one);
    })

-- all that is found with the rows that are reached is what all rows give
pub found_near : (seen : Seen) (asked : Terms) (fees : Charges) (terms : Terms) (first some near : List Usable) (coming : List Cutoff)
    (by_price : List Usable) (cuts : List Cut) (most : ℕ) (found : Option Choice)
    → terms ≡ asked → AreRows seen.bids → AreRows seen.offers → IsPermutation (usable seen asked fees) by_price → IsByPrice by_price
    → coming ≡ cutoffs_of by_price by_price → AreCutoffs asked.side (usable seen asked fees) coming → first ≡ by_price
    → ((cutoff : ℤ) → swept cutoff by_price ≤ most → StopAt cutoff by_price some) → IsPermutation some near → IsOrdered Cost near
    → most ≡ fillable first terms.shares → cuts ≡ map (cut_by terms.side near most) coming
    → found ≡ chosen terms.side near most None (map (cut_by terms.side near most) coming)
    → Found seen asked fees by_price (all_by_cost by_price) cuts most found
found_near seen asked fees terms first some near coming by_price cuts most found same bids offers rows_same ordered comes are one reach
    near_same cheapest count made choice =
    let side = asked.side in
    let usables : List Usable = usable seen asked fees in
    let all : List Usable = all_by_cost by_price in
    let table' = table seen asked fees by_price all (rising side seen bids offers) rows_same ordered (same_all by_price)
    (ordered_all by_price) in
    let is : AreReached side most by_price some near all =
    record {
      reach = reach;
      same_near = near_same;
      same_all = same_all by_price;
      first = ordered_from Cost near (in_order_from Cost near cheapest);
      second = ordered_from Cost all (in_order_from Cost all (ordered_all by_price));
    } in
    let each : (cutoff : Cutoff) → In cutoff coming → IsCutoffAt side by_price cutoff =
    λ cutoff within.
    let sums = In-All (λ (it : Cutoff). IsCutoffOf side usables it) coming are.sums cutoff within in
    let rank = rank_of side cutoff.price in
    let some_row = In-Any (λ (row : Usable). row.price ≡ cutoff.price) usables
    (In-All (λ (it : Cutoff). Any (λ (row : Usable). row.price ≡ it.price) usables) coming are.no_other cutoff within) in
    let row : Usable = some_row.0 in
    let rank_is : row.rank ≡ rank = table'.ranks row some_row.1 ∙ ap (rank_of side) some_row.2 in
    record {
      sums = record {
        swept = sums.swept ∙ sym (total_same (swept_part rank) usables by_price rows_same);
        swept_cost = sums.swept_cost ∙ sym (amount_same (swept_cost_part rank) usables by_price rows_same);
        pool = sums.pool ∙ sym (total_same (pool_part rank) usables by_price rows_same);
      };
      row = row;
      within = in_other usables by_price rows_same row some_row.1;
      pooled = subst (λ z. is_pooled z row ≡ true) rank_is (own-step row (places row.rank row));
    } in
    let sided = ap (λ (it : Terms). it.side) same in
    let cuts_are : map (cut_by terms.side near most) coming ≡ map (cut_by side all most) coming =
    ap (λ it. map (cut_by it near most) coming) sided ∙ cuts_same side most by_price some near all is coming each in
    let found_is : found ≡ chosen side all most None (map (cut_by side all most) coming) =
    choice ∙ ap (chosen terms.side near most None) cuts_are ∙ ap (λ it. chosen it near most None (map (cut_by side all most) coming)) sided
    ∙ choice_near side most by_price some near all is coming each None in
    found_from seen asked fees asked first by_price all coming by_price all cuts most found refl bids offers rows_same ordered comes one
    refl refl (same_all by_price) (ordered_all by_price)
    (count ∙ ap (λ (it : Terms). fillable first it.shares) same) (made ∙ cuts_are) found_is
