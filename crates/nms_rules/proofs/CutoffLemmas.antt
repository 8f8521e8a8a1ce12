-- The place of a row at a cutoff (swept, in the pool, or beyond), and its parts of the sums.
use Rattle.std.proofs.Common.{◌≡◌, true, false, ◌⊎◌, inl, inr, refl}
use Rattle.std.specs.Prelude.{ℤ, pos, not, ◌-ℤ◌, ◌*ℤ◌, ◌<ℤ◌}
use Rattle.std.specs.Int.{int_max}
use Rattle.std.specs.Int.RustNames.{int_le}
use Rattle.std.proofs.lemmas.Bool.{cases_Bool, and_from, and_right, not_from_true, not_from_false, cond-true, cond-false}
use Rattle.nms_rules.specs.Cutoff.{is_pooled, is_swept, pool_part, savings_part, swept_cost_part, swept_part}
use Rattle.nms_rules.specs.Usable.{Usable}
use Rattle.nms_rules.proofs.SignedLemmas.{le-false}

-- a row is swept, or in the pool, or beyond the cutoff
pub record Sweeps (cutoff : ℤ) (row : Usable) : Type 0 where
  pub is : is_swept cutoff row ≡ true
  pub pooled : is_pooled cutoff row ≡ false

pub record Pools (cutoff : ℤ) (row : Usable) : Type 0 where
  pub is : is_swept cutoff row ≡ false
  pub pooled : is_pooled cutoff row ≡ true

pub record Passes (cutoff : ℤ) (row : Usable) : Type 0 where
  pub is : is_swept cutoff row ≡ false
  pub pooled : is_pooled cutoff row ≡ false
  pub beyond : cutoff <ℤ row.rank

places-step : (cutoff : ℤ) (row : Usable) → (is_swept cutoff row ≡ true) ⊎ (is_swept cutoff row ≡ false)
    → (int_le row.rank cutoff ≡ true) ⊎ (int_le row.rank cutoff ≡ false) → Sweeps cutoff row ⊎ (Pools cutoff row ⊎ Passes cutoff row)
places-step cutoff row (inl is) le = inl (record {
  is = is;
  pooled =
      and_right (int_le row.rank cutoff) (not (is_swept cutoff row)) (not_from_true (is_swept cutoff row) is);
})
places-step cutoff row (inr is) (inl le) =
    inr (inl (record {
      is = is;
      pooled =
          and_from (int_le row.rank cutoff) (not (is_swept cutoff row)) le (not_from_false (is_swept cutoff row) is);
    }))
places-step cutoff row (inr is) (inr le) = inr (inr (record { is = is; pooled = rw le refl; beyond = le-false row.rank cutoff le }))

pub places : (cutoff : ℤ) (row : Usable) → Sweeps cutoff row ⊎ (Pools cutoff row ⊎ Passes cutoff row)
places cutoff row = places-step cutoff row (cases_Bool (is_swept cutoff row)) (cases_Bool (int_le row.rank cutoff))

-- the parts of a row
pub swept-is : (cutoff : ℤ) (row : Usable) → is_swept cutoff row ≡ true → swept_part cutoff row ≡ row.size
swept-is cutoff row is = cond-true (is_swept cutoff row) row.size 0 is

pub swept-not : (cutoff : ℤ) (row : Usable) → is_swept cutoff row ≡ false → swept_part cutoff row ≡ 0
swept-not cutoff row is = cond-false (is_swept cutoff row) row.size 0 is

pub pool-is : (cutoff : ℤ) (row : Usable) → is_pooled cutoff row ≡ true → pool_part cutoff row ≡ row.size
pool-is cutoff row is = cond-true (is_pooled cutoff row) row.size 0 is

pub pool-not : (cutoff : ℤ) (row : Usable) → is_pooled cutoff row ≡ false → pool_part cutoff row ≡ 0
pool-not cutoff row is = cond-false (is_pooled cutoff row) row.size 0 is

pub cost-is : (cutoff : ℤ) (row : Usable) → is_swept cutoff row ≡ true → swept_cost_part cutoff row ≡ row.cost *ℤ pos row.size
cost-is cutoff row is = cond-true (is_swept cutoff row) (row.cost *ℤ pos row.size) (pos 0) is

pub cost-not : (cutoff : ℤ) (row : Usable) → is_swept cutoff row ≡ false → swept_cost_part cutoff row ≡ pos 0
cost-not cutoff row is = cond-false (is_swept cutoff row) (row.cost *ℤ pos row.size) (pos 0) is

pub savings-is : (cutoff marginal : ℤ) (row : Usable) → is_pooled cutoff row ≡ true
    → savings_part cutoff marginal row ≡ int_max (marginal -ℤ row.cost) (pos 0) *ℤ pos row.size
savings-is cutoff marginal row is = cond-true (is_pooled cutoff row) (int_max (marginal -ℤ row.cost) (pos 0) *ℤ pos row.size) (pos 0) is

pub savings-not : (cutoff marginal : ℤ) (row : Usable) → is_pooled cutoff row ≡ false → savings_part cutoff marginal row ≡ pos 0
savings-not cutoff marginal row is = cond-false (is_pooled cutoff row) (int_max (marginal -ℤ row.cost) (pos 0) *ℤ pos row.size) (pos 0) is
