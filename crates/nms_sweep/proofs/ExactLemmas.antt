-- Each cut is the one that its price requires, and its marginal is the cost of the last share that is needed.
use Rattle.std.proofs.Common.{ℕ, ◌≡◌, ◌<◌, ◌≤◌, ◌+◌, ◌-◌, ◌&&◌, true, false, List, [], ◌∷◌, ◌⊎◌, inl, inr, refl, ap, sym, ◌∙◌, subst, arith}
use Rattle.std.proofs.Common.{nat_le}
use Rattle.std.specs.Prelude.{ℤ, pos, ◌<ℤ◌, ◌≤ℤ◌, max}
use Rattle.std.specs.Int.RustNames.{int_le, int_lt}
use Rattle.std.proofs.lemmas.Bool.{and_parts, both_ways, cases_Bool, cond-true, cond-false, leb-false}
use Rattle.std.proofs.lemmas.Int.{ints}
use Rattle.std.proofs.lemmas.List.Sorted.{IsPermutation-sym}
use Rattle.nms_quote.specs.declared.certificate.Cut.{Cut}
use Rattle.nms_quote.specs.declared.certificate.CutKind.{CutKind}
use Rattle.nms_quote.specs.declared.order.OrderSide.{OrderSide}
use Rattle.nms_fee_book.specs.Fees.{Charges}
use Rattle.nms_rules.specs.Assignment.{total}
use Rattle.nms_rules.specs.Cutoff.{is_pooled, pool, pool_part, swept}
use Rattle.nms_rules.specs.Usable.{Usable, rank_of}
use Rattle.nms_rules.proofs.Offered.{Passes, Pools, Sweeps, places, pool-is, pool-not, All-In, Any-In, In, lt-true}
use Rattle.nms_sweep.specs.Choice.{below, below_part, is_below, share_cost}
use Rattle.nms_sweep.specs.Filling.{AreExact, IsMarginalAt, KindIs, up_to, up_to_part}
use Rattle.nms_sweep.specs.declared.row_order.Key.TheVariants.{Cost}
use Rattle.nms_sweep.proofs.CutLemmas.{cuts_of, kind_at}
use Rattle.nms_sweep.proofs.LegLemmas.{level}
use Rattle.nms_sweep.proofs.MarginalLemmas.{marginal_is, none-below}
use Rattle.nms_sweep.proofs.OrderLemmas.{Ordered}
use Rattle.nms_sweep.proofs.PlanLemmas.{IsFit, Kinds, Table, in_other, kinds, row-of}
use Rattle.nms_sweep.proofs.TierLemmas.{Above, Below, Beyond, Level, Swept, Tier, below_dear, level_part, tier}
use Rattle.nms_sweep.proofs.TotalLemmas.{total_same}

-- ---- what costs no more

le-yes : (a b : ℤ) → a ≤ℤ b → int_le a b ≡ true
le-yes a b e = grind (arith, ints)

le-no : (a b : ℤ) → b <ℤ a → int_le a b ≡ false
le-no a b e = grind (arith, ints)

up_to-parts : (cutoff cost : ℤ) (row : Usable) → Tier cutoff cost row
    → up_to_part cutoff cost row ≡ below_part cutoff cost row + level_part cutoff cost row
unfolding Tier Swept Below Level Above Beyond level_part
up_to-parts cutoff cost row (inl at) = rw (at.level, at.below, at.pooled) refl
up_to-parts cutoff cost row (inr (inl at)) =
    rw (at.0.level, at.0.below, at.0.pooled, le-yes row.cost cost (omega (arith, ints, at.1))) (omega arith)
up_to-parts cutoff cost row (inr (inr (inl at))) =
    rw (at.0.level, at.0.below, at.0.pooled, le-yes row.cost cost (omega (arith, ints, at.1))) (omega arith)
up_to-parts cutoff cost row (inr (inr (inr (inl at)))) = rw (at.0.level, at.0.below, at.0.pooled, le-no row.cost cost at.1) refl
up_to-parts cutoff cost row (inr (inr (inr (inr at)))) = rw (at.0.level, at.0.below, at.0.pooled) refl

up_to-is : (cutoff cost : ℤ) (rows : List Usable) → up_to cutoff cost rows ≡ below cutoff cost rows + level cutoff cost rows
unfolding total
up_to-is cutoff cost [] = refl
up_to-is cutoff cost (row ∷ rows) = omega (arith, up_to-parts cutoff cost row (tier cutoff cost row), up_to-is cutoff cost rows)

-- ---- what a share costs, of rows in the order of their costs

-- it is what some row of the pool costs, and cheaper shares are fewer
pub record IsCostOf (cutoff : ℤ) (rows : List Usable) (number : ℕ) (cost : ℤ) : Type 0 where
  pub some : (row : Usable) × In row rows × (is_pooled cutoff row ≡ true) × (row.cost ≡ cost)
  pub fewer : below cutoff cost rows < max number 1

unfoldable pub HasPooled : ℤ → List Usable → Type 0
HasPooled cutoff rows = (row : Usable) × In row rows × (is_pooled cutoff row ≡ true)

-- if the pool has shares, it has a row
pool-step : (cutoff : ℤ) (row : Usable) (rows : List Usable) → (0 < pool cutoff rows → HasPooled cutoff rows) → 0 < pool cutoff (row ∷ rows)
    → (is_pooled cutoff row ≡ true) ⊎ (is_pooled cutoff row ≡ false) → HasPooled cutoff (row ∷ rows)
unfolding total HasPooled
pool-step cutoff row rows rest some (inl pooled) = (row, inl refl, pooled)
pool-step cutoff row rows rest some (inr out) = let at = rest (omega (arith, some, pool-not cutoff row out)) in (at.0, inr at.1, at.2)

pool-some : (cutoff : ℤ) (rows : List Usable) → 0 < pool cutoff rows → HasPooled cutoff rows
unfolding total
pool-some cutoff [] some = absurd (omega (arith, some))
pool-some cutoff (row ∷ rows) some = pool-step cutoff row rows (pool-some cutoff rows) some (cases_Bool (is_pooled cutoff row))

-- if a row is not in the pool, the one in the pool is a later one
later-pooled : (cutoff : ℤ) (row : Usable) (rows : List Usable) → is_pooled cutoff row ≡ false → HasPooled cutoff (row ∷ rows)
    → HasPooled cutoff rows
unfolding HasPooled
later-pooled cutoff row rows out pooled = step pooled.0 pooled.1 pooled.2
  where
    step : (one : Usable) → (one ≡ row) ⊎ In one rows → is_pooled cutoff one ≡ true → HasPooled cutoff rows
    step one (inl e) is = absurd (both_ways (is_pooled cutoff row) out (subst (λ (other : Usable). is_pooled cutoff other ≡ true) e is))
    step one (inr within) is = (one, within, is)

below-out : (cutoff cost : ℤ) (row : Usable) → is_pooled cutoff row ≡ false → below_part cutoff cost row ≡ 0
below-out cutoff cost row out = rw out refl

below-within : (cutoff cost : ℤ) (row : Usable) → (is_below cutoff cost row ≡ true) ⊎ (is_below cutoff cost row ≡ false)
    → below_part cutoff cost row ≤ row.size
below-within cutoff cost row (inl is) = omega (arith, cond-true (is_below cutoff cost row) row.size 0 is)
below-within cutoff cost row (inr not_below) = omega (arith, cond-false (is_below cutoff cost row) row.size 0 not_below)

pub later-cases : (cutoff : ℤ) (number : ℕ) (row : Usable) → (is_pooled cutoff row && nat_le number row.size ≡ false)
    → (is_pooled cutoff row ≡ true) ⊎ (is_pooled cutoff row ≡ false)
    → (is_pooled cutoff row ≡ false) ⊎ ((is_pooled cutoff row ≡ true) × (row.size < number))
later-cases cutoff number row later (inr out) = inl out
later-cases cutoff number row later (inl pooled) =
    inr (pooled, leb-false number row.size (sym (ap (λ b. b && nat_le number row.size) pooled) ∙ later))

-- the first row has it
cost-here : (cutoff : ℤ) (number : ℕ) (row : Usable) (rows : List Usable) → Ordered Cost (row ∷ rows) → is_pooled cutoff row ≡ true
    → IsCostOf cutoff (row ∷ rows) number row.cost
unfolding total
cost-here cutoff number row rows ordered pooled = record {
  some = (row, inl refl, pooled, refl);
  fewer = omega (
    arith,
    below_dear cutoff row.cost row (omega (arith, ints)) (tier cutoff row.cost row),
    none-below cutoff row.cost row rows (omega (arith, ints)) ordered.0,
  );
}

-- a later one has it
cost-later : (cutoff : ℤ) (number : ℕ) (row : Usable) (rows : List Usable) (cost : ℤ)
    → IsCostOf cutoff rows (number - pool_part cutoff row) cost → (is_pooled cutoff row ≡ false)
    ⊎ ((is_pooled cutoff row ≡ true) × (row.size < number)) → IsCostOf cutoff (row ∷ rows) number cost
unfolding total
cost-later cutoff number row rows cost is (inl out) = record {
  some = (is.some.0, inr is.some.1, is.some.2, is.some.3);
  fewer = omega (arith, is.fewer, below-out cutoff cost row out, pool-not cutoff row out);
}
cost-later cutoff number row rows cost is (inr over) = record {
  some = (is.some.0, inr is.some.1, is.some.2, is.some.3);
  fewer = omega (arith, is.fewer, below-within cutoff cost row (cases_Bool (is_below cutoff cost row)), pool-is cutoff row over.0, over.1);
}

-- the pool of the later rows
rest-pooled : (cutoff : ℤ) (number : ℕ) (row : Usable) (rows : List Usable) → number ≤ pool cutoff (row ∷ rows)
    → HasPooled cutoff (row ∷ rows) → (is_pooled cutoff row ≡ false) ⊎ ((is_pooled cutoff row ≡ true) × (row.size < number))
    → HasPooled cutoff rows
unfolding total
rest-pooled cutoff number row rows few pooled (inl out) = later-pooled cutoff row rows out pooled
rest-pooled cutoff number row rows few pooled (inr over) = pool-some cutoff rows (omega (arith, few, pool-is cutoff row over.0, over.1))

pub cost_of_number : (cutoff : ℤ) (number : ℕ) (last : ℤ) (rows : List Usable) → Ordered Cost rows → number ≤ pool cutoff rows
    → HasPooled cutoff rows → IsCostOf cutoff rows number (share_cost cutoff number last rows)
unfolding share_cost total HasPooled
cost_of_number cutoff number last [] ordered few pooled = absurd pooled.1
cost_of_number cutoff number last (row ∷ rows) ordered few pooled =
    step (cost_of_number cutoff (number - pool_part cutoff row) row.cost rows ordered.1 (omega (arith, few)))
    (cases_Bool (is_pooled cutoff row && nat_le number row.size))
  where
    step : (HasPooled cutoff rows → IsCostOf cutoff rows (number - pool_part cutoff row)
        (share_cost cutoff (number - pool_part cutoff row) row.cost rows))
        → (is_pooled cutoff row && nat_le number row.size ≡ true) ⊎ (is_pooled cutoff row && nat_le number row.size ≡ false)
        → IsCostOf cutoff (row ∷ rows) number (share_cost cutoff number last (row ∷ rows))
    step rest (inl here) =
        subst (IsCostOf cutoff (row ∷ rows) number)
        (sym (cond-true (is_pooled cutoff row && nat_le number row.size) row.cost
        (share_cost cutoff (number - pool_part cutoff row) row.cost rows) here))
        (cost-here cutoff number row rows ordered (and_parts (is_pooled cutoff row) (nat_le number row.size) here).0)
    step rest (inr later) =
        let cases = later-cases cutoff number row later (cases_Bool (is_pooled cutoff row)) in
        subst (IsCostOf cutoff (row ∷ rows) number)
        (sym (cond-false (is_pooled cutoff row && nat_le number row.size) row.cost
        (share_cost cutoff (number - pool_part cutoff row) row.cost rows) later))
        (cost-later cutoff number row rows (share_cost cutoff (number - pool_part cutoff row) row.cost rows)
        (rest (rest-pooled cutoff number row rows few pooled cases)) cases)

-- ---- a cut

-- at its own price a row is in the pool
pub own-step : (row : Usable) → Sweeps row.rank row ⊎ (Pools row.rank row ⊎ Passes row.rank row) → is_pooled row.rank row ≡ true
own-step row (inl at) = let less = lt-true row.rank row.rank (and_parts row.protected (int_lt row.rank row.rank) at.is).1 in
    absurd (omega (arith, ints, less))
own-step row (inr (inl at)) = at.pooled
own-step row (inr (inr at)) = absurd (omega (arith, ints, at.beyond))

marginal-at : (side : OrderSide) (fees : Charges) (rows by_price by_cost : List Usable) → Table side fees rows by_price by_cost
    → (most : ℕ) (row : Usable) → In row rows → IsFit rows by_cost most row.rank
    → IsMarginalAt rows most row.rank (share_cost row.rank (most - swept row.rank rows) (pos 0) by_cost)
unfolding HasPooled
marginal-at side fees rows by_price by_cost table' most row within fit =
    let cutoff = row.rank in
    let number = most - swept cutoff rows in
    let cost = share_cost cutoff number (pos 0) by_cost in
    let pools = total_same (pool_part cutoff) rows by_cost table'.same_cost in
    let few : number ≤ pool cutoff by_cost = omega (arith, pools, fit.reaches, fit.sweeps) in
    let is = cost_of_number cutoff number (pos 0) by_cost table'.ordered_cost few
    (row, in_other rows by_cost table'.same_cost row within, own-step row (places cutoff row)) in
    let reaches = marginal_is cutoff number (pos 0) by_cost table'.ordered_cost few in
    record {
      sweeps = fit.sweeps;
      reaches = fit.reaches;
      last = record {
        some = Any-In (λ (one : Usable). (is_pooled cutoff one ≡ true) × (one.cost ≡ cost)) rows is.some.0
            (in_other by_cost rows (IsPermutation-sym rows by_cost table'.same_cost) is.some.0 is.some.1) (is.some.2, is.some.3);
        fewer = omega (arith, is.fewer, total_same (below_part cutoff cost) rows by_cost table'.same_cost);
        as_many = omega (
          arith,
          reaches.reaches,
          up_to-is cutoff cost by_cost,
          total_same (up_to_part cutoff cost) rows by_cost table'.same_cost,
        );
      };
    }

kind-exact : (side : OrderSide) (fees : Charges) (rows by_price by_cost : List Usable) → Table side fees rows by_price by_cost
    → (most : ℕ) (row : Usable) → In row rows → (kind : CutKind) → kind ≡ kind_at rows by_cost most row.rank
    → Kinds rows by_cost most row.rank → KindIs rows most row.rank kind
unfolding Kinds
kind-exact side fees rows by_price by_cost table' most row within kind is (inl much) =
    subst (KindIs rows most row.rank) (sym (is ∙ much.1)) much.0
kind-exact side fees rows by_price by_cost table' most row within kind is (inr (inl little)) =
    subst (KindIs rows most row.rank) (sym (is ∙ little.1)) little.0
kind-exact side fees rows by_price by_cost table' most row within kind is (inr (inr fit)) =
    subst (KindIs rows most row.rank) (sym (is ∙ fit.is)) (marginal-at side fees rows by_price by_cost table' most row within fit)

pub exact : (side : OrderSide) (fees : Charges) (rows by_price by_cost : List Usable) → Table side fees rows by_price by_cost
    → (most : ℕ) (cuts : List Cut) → cuts ≡ cuts_of (kind_at rows by_cost most) by_price → AreExact side rows most cuts
exact side fees rows by_price by_cost table' most cuts made =
    All-In (λ (cut : Cut). KindIs rows most (rank_of side cut.price) cut.kind) cuts (λ cut within.
    let row = row-of side fees rows by_price by_cost table' most cut (subst (In cut) made within) in
    subst (λ rank. KindIs rows most rank cut.kind) (sym row.1.rank)
    (kind-exact side fees rows by_price by_cost table' most row.0 row.1.within cut.kind row.1.kind (kinds rows by_cost most row.0.rank)))
