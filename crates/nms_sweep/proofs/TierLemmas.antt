-- The place of a row at a cutoff and a marginal: swept; in the pool, below the marginal, at it or above it; or beyond the
-- cutoff. Also what it gets, and what that costs.
use Rattle.std.proofs.Common.{ℕ, ◌≡◌, ◌<◌, ◌≤◌, ◌+◌, Bool, true, false, ◌⊎◌, inl, inr, refl, ap, arith, min}
use Rattle.std.specs.Prelude.{ℤ, pos, ◌+ℤ◌, ◌-ℤ◌, ◌*ℤ◌, ◌<ℤ◌, ◌≤ℤ◌, not, if◌then◌else◌}
use Rattle.std.specs.Int.{int_max}
use Rattle.std.specs.Int.RustNames.{int_le, int_lt}
use Rattle.std.proofs.lemmas.Bool.{cases_Bool, and_parts}
use Rattle.std.proofs.lemmas.Int.{ints, clamps, by_lt_z}
use Rattle.std.proofs.Math.IntN.{*ℤ-zero}
use Rattle.nms_rules.specs.Cutoff.{is_pooled, is_swept, pool_part, savings_part, swept_cost_part, swept_part}
use Rattle.nms_rules.specs.Usable.{Usable}
use Rattle.nms_rules.proofs.Offered.{Passes, Pools, Sweeps, places, pool-is, pool-not, swept-is, swept-not, le-true, lt-false, lt-true}
use Rattle.nms_rules.proofs.Offered.{plus-times, zero-times}
use Rattle.nms_sweep.specs.Choice.{below_part, is_below, is_level, left_after, share_of}

-- a row at the marginal
unfoldable pub level_part : ℤ → ℤ → Usable → ℕ
level_part cutoff marginal row = if is_level cutoff marginal row then row.size else 0

pub record Stands (cutoff marginal : ℤ) (row : Usable) (sweeps pools belows levels : Bool) : Type 0 where
  pub swept : is_swept cutoff row ≡ sweeps
  pub pooled : is_pooled cutoff row ≡ pools
  pub below : is_below cutoff marginal row ≡ belows
  pub level : is_level cutoff marginal row ≡ levels

unfoldable pub Swept : ℤ → ℤ → Usable → Type 0
Swept cutoff marginal row = Stands cutoff marginal row true false false false

unfoldable pub Below : ℤ → ℤ → Usable → Type 0
Below cutoff marginal row = Stands cutoff marginal row false true true false × (row.cost <ℤ marginal)

unfoldable pub Level : ℤ → ℤ → Usable → Type 0
Level cutoff marginal row = Stands cutoff marginal row false true false true × (row.cost ≡ marginal)

unfoldable pub Above : ℤ → ℤ → Usable → Type 0
Above cutoff marginal row = Stands cutoff marginal row false true false false × (marginal <ℤ row.cost)

unfoldable pub Beyond : ℤ → ℤ → Usable → Type 0
Beyond cutoff marginal row = Stands cutoff marginal row false false false false × (cutoff <ℤ row.rank)

unfoldable pub Tier : ℤ → ℤ → Usable → Type 0
Tier cutoff marginal row = Swept cutoff marginal row
    ⊎ (Below cutoff marginal row ⊎ (Level cutoff marginal row ⊎ (Above cutoff marginal row ⊎ Beyond cutoff marginal row)))

tier-step : (cutoff marginal : ℤ) (row : Usable) → Sweeps cutoff row ⊎ (Pools cutoff row ⊎ Passes cutoff row)
    → (int_lt row.cost marginal ≡ true) ⊎ (int_lt row.cost marginal ≡ false)
    → (int_lt marginal row.cost ≡ true) ⊎ (int_lt marginal row.cost ≡ false) → Tier cutoff marginal row
unfolding Tier Swept Below Level Above Beyond
tier-step cutoff marginal row (inl at) less more =
    inl (record { swept = at.is; pooled = at.pooled; below = rw at.pooled refl; level = rw at.pooled refl })
tier-step cutoff marginal row (inr (inl at)) (inl less) more =
    inr (inl (
      record { swept = at.is; pooled = at.pooled; below = rw (at.pooled, less) refl; level = rw (at.pooled, less) refl },
      lt-true row.cost marginal less,
    ))
tier-step cutoff marginal row (inr (inl at)) (inr less) (inl more) =
    inr (inr (inr (inl (
      record {
        swept = at.is;
        pooled = at.pooled;
        below = rw (at.pooled, less) refl;
        level = rw (at.pooled, less, more) refl;
      },
      lt-true marginal row.cost more,
    ))))
tier-step cutoff marginal row (inr (inl at)) (inr less) (inr more) =
    inr (inr (inl (
      record { swept = at.is; pooled = at.pooled; below = rw (at.pooled, less) refl; level = rw (at.pooled, less, more) refl },
      omega (arith, ints, lt-false row.cost marginal less, lt-false marginal row.cost more),
    )))
tier-step cutoff marginal row (inr (inr at)) less more =
    inr (inr (inr (inr (record { swept = at.is; pooled = at.pooled; below = rw at.pooled refl; level = rw at.pooled refl }, at.beyond))))

pub tier : (cutoff marginal : ℤ) (row : Usable) → Tier cutoff marginal row
tier cutoff marginal row = tier-step cutoff marginal row (places cutoff row) (cases_Bool (int_lt row.cost marginal))
    (cases_Bool (int_lt marginal row.cost))

-- ---- what a row gets

-- its share, and what is left for later rows at the marginal
pub share_counts : (cutoff marginal : ℤ) (left later : ℕ) (row : Usable) → Tier cutoff marginal row
    → share_of cutoff marginal left row + min (left_after cutoff marginal left row) later ≡ swept_part cutoff row
    + below_part cutoff marginal row + min left (level_part cutoff marginal row + later)
unfolding Tier Swept Below Level Above Beyond level_part
share_counts cutoff marginal left later row (inl at) = rw (at.level, at.below, at.swept) (omega arith)
share_counts cutoff marginal left later row (inr (inl at)) = rw (at.0.level, at.0.below, at.0.swept) (omega arith)
share_counts cutoff marginal left later row (inr (inr (inl at))) = rw (at.0.level, at.0.below, at.0.swept) (omega arith)
share_counts cutoff marginal left later row (inr (inr (inr (inl at)))) = rw (at.0.level, at.0.below, at.0.swept) (omega arith)
share_counts cutoff marginal left later row (inr (inr (inr (inr at)))) = rw (at.0.level, at.0.below, at.0.swept) (omega arith)

-- what its share costs is what the marginal says
pub share_costs : (cutoff marginal : ℤ) (left : ℕ) (row : Usable) → Tier cutoff marginal row
    → row.cost *ℤ pos (share_of cutoff marginal left row) +ℤ marginal *ℤ pos (swept_part cutoff row) +ℤ savings_part cutoff marginal row
    ≡ swept_cost_part cutoff row +ℤ marginal *ℤ pos (share_of cutoff marginal left row)
unfolding Tier Swept Below Level Above Beyond
share_costs cutoff marginal left row (inl at) = rw (at.level, at.below, at.pooled, at.swept) (omega (arith, ints))
share_costs cutoff marginal left row (inr (inl at)) =
    let saved : int_max (marginal -ℤ row.cost) (pos 0) ≡ marginal -ℤ row.cost = omega (arith, ints, clamps, at.1) in
    let whole : row.cost +ℤ (marginal -ℤ row.cost) ≡ marginal = omega (arith, ints) in
    rw (at.0.level, at.0.below, at.0.pooled, at.0.swept, saved)
    (omega (arith, ints, *ℤ-zero marginal, plus-times row.cost (marginal -ℤ row.cost) row.size, ap (λ z. z *ℤ pos row.size) whole))
share_costs cutoff marginal left row (inr (inr (inl at))) =
    let saved : int_max (marginal -ℤ row.cost) (pos 0) ≡ pos 0 = omega (arith, ints, clamps, at.1) in
    rw (at.0.level, at.0.below, at.0.pooled, at.0.swept, saved)
    (omega (arith, ints, *ℤ-zero marginal, zero-times row.size, ap (λ z. z *ℤ pos (min left row.size)) at.1))
share_costs cutoff marginal left row (inr (inr (inr (inl at)))) =
    let saved : int_max (marginal -ℤ row.cost) (pos 0) ≡ pos 0 = omega (arith, ints, clamps, at.1) in
    rw (at.0.level, at.0.below, at.0.pooled, at.0.swept, saved)
    (omega (arith, ints, *ℤ-zero marginal, *ℤ-zero row.cost, zero-times row.size))
share_costs cutoff marginal left row (inr (inr (inr (inr at)))) =
    rw (at.0.level, at.0.below, at.0.pooled, at.0.swept) (omega (arith, ints, *ℤ-zero marginal, *ℤ-zero row.cost))

-- its share is within its size, is all of it if it must be swept, and is none beyond the cutoff
pub record Gets (cutoff : ℤ) (row : Usable) (share : ℕ) : Type 0 where
  pub within : share ≤ row.size
  pub sweeps : is_swept cutoff row ≡ true → share ≡ row.size
  pub beyond : 0 < share → row.rank ≤ℤ cutoff

swept-rank : (cutoff : ℤ) (row : Usable) → is_swept cutoff row ≡ true → row.rank <ℤ cutoff
swept-rank cutoff row is = lt-true row.rank cutoff (and_parts row.protected (int_lt row.rank cutoff) is).1

pooled-rank : (cutoff : ℤ) (row : Usable) → is_pooled cutoff row ≡ true → row.rank ≤ℤ cutoff
pooled-rank cutoff row is = le-true row.rank cutoff (and_parts (int_le row.rank cutoff) (not (is_swept cutoff row)) is).0

rank-cases : (rank cutoff : ℤ) → (rank ≤ℤ cutoff) ⊎ (cutoff <ℤ rank)
rank-cases rank cutoff = by_lt_z cutoff rank (λ less. inr less) (λ most. inl most)

share-within : (cutoff marginal : ℤ) (left : ℕ) (row : Usable) → Tier cutoff marginal row → share_of cutoff marginal left row ≤ row.size
unfolding Tier Swept Below Level Above Beyond
share-within cutoff marginal left row (inl at) = rw at.swept (omega arith)
share-within cutoff marginal left row (inr (inl at)) = rw (at.0.below, at.0.swept) (omega arith)
share-within cutoff marginal left row (inr (inr (inl at))) = rw (at.0.level, at.0.below, at.0.swept) (omega arith)
share-within cutoff marginal left row (inr (inr (inr (inl at)))) = rw (at.0.level, at.0.below, at.0.swept) (omega arith)
share-within cutoff marginal left row (inr (inr (inr (inr at)))) = rw (at.0.level, at.0.below, at.0.swept) (omega arith)

share-beyond : (cutoff marginal : ℤ) (left : ℕ) (row : Usable) → Tier cutoff marginal row → 0 < share_of cutoff marginal left row
    → (row.rank ≤ℤ cutoff) ⊎ (cutoff <ℤ row.rank) → row.rank ≤ℤ cutoff
unfolding Tier Swept Below Level Above Beyond
share-beyond cutoff marginal left row at some (inl within) = within
share-beyond cutoff marginal left row at some (inr beyond) = absurd (none at)
  where
    none : Tier cutoff marginal row → ⊥
    none (inl at) = let less = swept-rank cutoff row at.swept in omega (arith, ints, less, beyond)
    none (inr (inl at)) = let within = pooled-rank cutoff row at.0.pooled in omega (arith, ints, within, beyond)
    none (inr (inr (inl at))) = let within = pooled-rank cutoff row at.0.pooled in omega (arith, ints, within, beyond)
    none (inr (inr (inr (inl at)))) = let within = pooled-rank cutoff row at.0.pooled in omega (arith, ints, within, beyond)
    none (inr (inr (inr (inr at)))) =
        let zero : share_of cutoff marginal left row ≡ 0 = rw (at.0.level, at.0.below, at.0.swept) refl in omega (arith, some, zero)

pub gets : (cutoff marginal : ℤ) (left : ℕ) (row : Usable) → Gets cutoff row (share_of cutoff marginal left row)
gets cutoff marginal left row = record {
  within = share-within cutoff marginal left row (tier cutoff marginal row);
  sweeps = λ is. rw is refl;
  beyond = λ some. share-beyond cutoff marginal left row (tier cutoff marginal row) some (rank-cases row.rank cutoff);
}

-- ---- the pool by its tiers

-- a row that costs no more than the marginal is below it or at it, if it is in the pool
pub pool_tiers : (cutoff marginal : ℤ) (row : Usable) → row.cost ≤ℤ marginal → Tier cutoff marginal row
    → below_part cutoff marginal row + level_part cutoff marginal row ≡ pool_part cutoff row
unfolding Tier Swept Below Level Above Beyond level_part
pool_tiers cutoff marginal row most (inl at) = rw (at.level, at.below, at.pooled) refl
pool_tiers cutoff marginal row most (inr (inl at)) = rw (at.0.level, at.0.below, at.0.pooled) (omega arith)
pool_tiers cutoff marginal row most (inr (inr (inl at))) = rw (at.0.level, at.0.below, at.0.pooled) (omega arith)
pool_tiers cutoff marginal row most (inr (inr (inr (inl at)))) = absurd (omega (arith, ints, most, at.1))
pool_tiers cutoff marginal row most (inr (inr (inr (inr at)))) = rw (at.0.level, at.0.below, at.0.pooled) refl

-- a row that costs no less than the marginal is not below it
pub below_dear : (cutoff marginal : ℤ) (row : Usable) → marginal ≤ℤ row.cost → Tier cutoff marginal row → below_part cutoff marginal row ≡ 0
unfolding Tier Swept Below Level Above Beyond
below_dear cutoff marginal row most (inl at) = rw at.below refl
below_dear cutoff marginal row most (inr (inl at)) = absurd (omega (arith, ints, most, at.1))
below_dear cutoff marginal row most (inr (inr (inl at))) = rw at.0.below refl
below_dear cutoff marginal row most (inr (inr (inr (inl at)))) = rw at.0.below refl
below_dear cutoff marginal row most (inr (inr (inr (inr at)))) = rw at.0.below refl

-- a row of the pool is at its own cost
pub level_own : (cutoff : ℤ) (row : Usable) → is_pooled cutoff row ≡ true → level_part cutoff row.cost row ≡ row.size
level_own cutoff row pooled =
    omega (
      arith,
      pool-is cutoff row pooled,
      below_dear cutoff row.cost row (omega (arith, ints)) (tier cutoff row.cost row),
      pool_tiers cutoff row.cost row (omega (arith, ints)) (tier cutoff row.cost row),
    )

-- ---- a row only by its price

far-step : (cutoff : ℤ) (row : Usable) → cutoff ≤ℤ row.rank → Sweeps cutoff row ⊎ (Pools cutoff row ⊎ Passes cutoff row)
    → swept_part cutoff row ≡ 0
far-step cutoff row far (inl at) = let less = swept-rank cutoff row at.is in absurd (omega (arith, ints, less, far))
far-step cutoff row far (inr (inl at)) = swept-not cutoff row at.is
far-step cutoff row far (inr (inr at)) = swept-not cutoff row at.is

-- at no better a price, nothing has to be swept
pub swept_far : (cutoff : ℤ) (row : Usable) → cutoff ≤ℤ row.rank → swept_part cutoff row ≡ 0
swept_far cutoff row far = far-step cutoff row far (places cutoff row)

within-step : (cutoff : ℤ) (row : Usable) → row.rank ≤ℤ cutoff → Sweeps cutoff row ⊎ (Pools cutoff row ⊎ Passes cutoff row)
    → swept_part cutoff row + pool_part cutoff row ≡ row.size
within-step cutoff row within (inl at) = omega (arith, swept-is cutoff row at.is, pool-not cutoff row at.pooled)
within-step cutoff row within (inr (inl at)) = omega (arith, swept-not cutoff row at.is, pool-is cutoff row at.pooled)
within-step cutoff row within (inr (inr at)) = absurd (omega (arith, ints, within, at.beyond))

-- at the price or better, a row is swept or in the pool
pub within_parts : (cutoff : ℤ) (row : Usable) → row.rank ≤ℤ cutoff → swept_part cutoff row + pool_part cutoff row ≡ row.size
within_parts cutoff row within = within-step cutoff row within (places cutoff row)
