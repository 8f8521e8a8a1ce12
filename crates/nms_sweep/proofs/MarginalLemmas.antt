-- The cost of one share of the pool, by its number: no more shares cost less, and with those that cost as much there
-- are enough.
use Rattle.std.proofs.Common.{ℕ, ◌≡◌, ◌≤◌, ◌+◌, ◌-◌, true, false, ◌&&◌, List, [], ◌∷◌, ◌⊎◌, inl, inr, refl, ap, sym, ◌∙◌, subst, arith}
use Rattle.std.proofs.Common.{nat_le}
use Rattle.std.specs.Prelude.{ℤ, ◌≤ℤ◌}
use Rattle.std.specs.List.{AllByRecursion}
use Rattle.std.proofs.lemmas.Bool.{and_parts, cases_Bool, cond-true, cond-false, leb-false, leb-true}
use Rattle.std.proofs.lemmas.Int.{ints}
use Rattle.nms_rules.specs.Assignment.{total}
use Rattle.nms_rules.specs.Cutoff.{is_pooled, pool, pool_part}
use Rattle.nms_rules.specs.Usable.{Usable}
use Rattle.nms_rules.proofs.Offered.{pool-is, pool-not}
use Rattle.nms_sweep.specs.Choice.{below, share_cost}
use Rattle.nms_sweep.specs.declared.row_order.Key.TheVariants.{Cost}
use Rattle.nms_sweep.proofs.LegLemmas.{level}
use Rattle.nms_sweep.proofs.OrderLemmas.{NoLess, Ordered}
use Rattle.nms_sweep.proofs.TierLemmas.{below_dear, level_own, pool_tiers, tier}

pub record IsMarginal (cutoff : ℤ) (rows : List Usable) (number : ℕ) (marginal : ℤ) : Type 0 where
  pub covers : below cutoff marginal rows ≤ number
  pub reaches : number ≤ below cutoff marginal rows + level cutoff marginal rows

-- no row of a higher cost is below
pub none-below : (cutoff marginal : ℤ) (row : Usable) (rows : List Usable) → marginal ≤ℤ row.cost → NoLess Cost row rows
    → below cutoff marginal rows ≡ 0
unfolding total
none-below cutoff marginal row [] most no_less = refl
none-below cutoff marginal row (other ∷ rows) most no_less =
    omega (
      arith,
      below_dear cutoff marginal other (omega (arith, ints, most, no_less.0)) (tier cutoff marginal other),
      none-below cutoff marginal row rows most no_less.1,
    )

-- the part of a row that does not reach the number
pub pool-before : (cutoff : ℤ) (number : ℕ) (row : Usable) → (is_pooled cutoff row && nat_le number row.size ≡ false)
    → (is_pooled cutoff row ≡ true) ⊎ (is_pooled cutoff row ≡ false) → pool_part cutoff row ≤ number
pool-before cutoff number row later (inr out) = omega (arith, pool-not cutoff row out)
pool-before cutoff number row later (inl pooled) =
    let over = leb-false number row.size (sym (ap (λ b. b && nat_le number row.size) pooled) ∙ later) in
    omega (arith, pool-is cutoff row pooled, over)

-- the first that reaches the number, or a later one
pub share-step : (cutoff : ℤ) (number : ℕ) (last : ℤ) (row : Usable) (rows : List Usable)
    → (is_pooled cutoff row && nat_le number row.size ≡ true) ⊎ (is_pooled cutoff row && nat_le number row.size ≡ false)
    → (is_pooled cutoff row ≡ true) × (number ≤ row.size) × (share_cost cutoff number last (row ∷ rows) ≡ row.cost)
    ⊎ (pool_part cutoff row ≤ number) × (share_cost cutoff number last (row ∷ rows)
    ≡ share_cost cutoff (number - pool_part cutoff row) row.cost rows)
unfolding share_cost
share-step cutoff number last row rows (inl here) =
    let parts = and_parts (is_pooled cutoff row) (nat_le number row.size) here in
    inl (
      parts.0,
      leb-true number row.size parts.1,
      cond-true (is_pooled cutoff row && nat_le number row.size) row.cost (share_cost cutoff (number - pool_part cutoff row) row.cost rows)
          here,
    )
share-step cutoff number last row rows (inr later) =
    inr (
      pool-before cutoff number row later (cases_Bool (is_pooled cutoff row)),
      cond-false (is_pooled cutoff row && nat_le number row.size) row.cost (share_cost cutoff (number - pool_part cutoff row) row.cost rows)
          later,
    )

-- it costs no less than what came last
pub not_less : (cutoff : ℤ) (number : ℕ) (last : ℤ) (rows : List Usable) → AllByRecursion (λ row. last ≤ℤ row.cost) rows → Ordered Cost rows
    → last ≤ℤ share_cost cutoff number last rows
unfolding share_cost
not_less cutoff number last [] each ordered = omega (arith, ints)
not_less cutoff number last (row ∷ rows) each ordered =
    step (not_less cutoff (number - pool_part cutoff row) row.cost rows ordered.0 ordered.1)
    (share-step cutoff number last row rows (cases_Bool (is_pooled cutoff row && nat_le number row.size)))
  where
    step : row.cost ≤ℤ share_cost cutoff (number - pool_part cutoff row) row.cost rows
        → (is_pooled cutoff row ≡ true) × (number ≤ row.size) × (share_cost cutoff number last (row ∷ rows) ≡ row.cost)
        ⊎ (pool_part cutoff row ≤ number) × (share_cost cutoff number last (row ∷ rows)
        ≡ share_cost cutoff (number - pool_part cutoff row) row.cost rows) → last ≤ℤ share_cost cutoff number last (row ∷ rows)
    step more (inl at) = omega (arith, ints, at.2, each.0)
    step more (inr at) = omega (arith, ints, at.1, each.0, more)

pub marginal_is : (cutoff : ℤ) (number : ℕ) (last : ℤ) (rows : List Usable) → Ordered Cost rows → number ≤ pool cutoff rows
    → IsMarginal cutoff rows number (share_cost cutoff number last rows)
unfolding share_cost total
marginal_is cutoff number last [] ordered few = record { covers = omega arith; reaches = omega (arith, few) }
marginal_is cutoff number last (row ∷ rows) ordered few =
    step (marginal_is cutoff (number - pool_part cutoff row) row.cost rows ordered.1)
    (share-step cutoff number last row rows (cases_Bool (is_pooled cutoff row && nat_le number row.size)))
  where
    here : (is_pooled cutoff row ≡ true) → number ≤ row.size → IsMarginal cutoff (row ∷ rows) number row.cost
    here pooled enough =
        let own = level_own cutoff row pooled in
        let none = none-below cutoff row.cost row rows (omega (arith, ints)) ordered.0 in
        record {
          covers = omega (arith, below_dear cutoff row.cost row (omega (arith, ints)) (tier cutoff row.cost row), none);
          reaches = omega (arith, own, enough);
        }

    later : (marginal : ℤ) → row.cost ≤ℤ marginal → pool_part cutoff row ≤ number
        → IsMarginal cutoff rows (number - pool_part cutoff row) marginal → IsMarginal cutoff (row ∷ rows) number marginal
    later marginal most part is =
        let tiers = pool_tiers cutoff marginal row most (tier cutoff marginal row) in
        record {
          covers = omega (arith, tiers, part, is.covers);
          reaches = omega (arith, tiers, part, is.reaches);
        }

    step : (number - pool_part cutoff row ≤ pool cutoff rows
        → IsMarginal cutoff rows (number - pool_part cutoff row) (share_cost cutoff (number - pool_part cutoff row) row.cost rows))
        → (is_pooled cutoff row ≡ true) × (number ≤ row.size) × (share_cost cutoff number last (row ∷ rows) ≡ row.cost)
        ⊎ (pool_part cutoff row ≤ number) × (share_cost cutoff number last (row ∷ rows)
        ≡ share_cost cutoff (number - pool_part cutoff row) row.cost rows)
        → IsMarginal cutoff (row ∷ rows) number (share_cost cutoff number last (row ∷ rows))
    step rest (inl at) = subst (IsMarginal cutoff (row ∷ rows) number) (sym at.2) (here at.0 at.1)
    step rest (inr at) =
        subst (IsMarginal cutoff (row ∷ rows) number) (sym at.1)
        (later (share_cost cutoff (number - pool_part cutoff row) row.cost rows)
        (not_less cutoff (number - pool_part cutoff row) row.cost rows ordered.0 ordered.1) at.0 (rest (omega (arith, at.0, few))))
