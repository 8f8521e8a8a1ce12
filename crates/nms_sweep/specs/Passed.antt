-- What a walk over the prices keeps: how many rows, in the order of their prices, it has passed, and the sums over them.
use Rattle.std.specs.Prelude.{ℕ, ℤ, pos, neg_ℤ, ◌≡◌, ◌≤◌, ◌*◌, ◌^◌, ◌*ℤ◌, ◌≤ℤ◌, List, [], ◌∷◌, All, length, take, drop, if◌then◌else◌}
use Rattle.nms_quote.specs.declared.order.OrderSide.{OrderSide}
use Rattle.nms_board.specs.declared.TheConstants.{MOST_ROWS}
use Rattle.nms_rules.specs.declared.TheConstants.{MOST_SIZE}
use Rattle.nms_rules.specs.Assignment.{amount, total}
use Rattle.nms_rules.specs.Cutoff.{swept, swept_cost}
use Rattle.nms_rules.specs.Usable.{Usable, rank_of}
use Rattle.nms_sweep.specs.Cutoffs.{cutoffs_of}
use Rattle.nms_sweep.specs.Order.{IsByPrice}
use Rattle.nms_sweep.specs.declared.cutoffs.Cutoff.{Cutoff}
use Rattle.nms_sweep.specs.declared.cutoffs.Passed.{Passed}

-- how many shares a protected row has, and what they cost
abbrev pub protected_part : Usable → ℕ
protected_part row = if row.protected then row.size else 0

abbrev pub protected_cost_part : Usable → ℤ
protected_cost_part row = if row.protected then row.cost *ℤ pos row.size else pos 0

-- the sums over the rows so far, far from the ends of their types
pub record IsCounted (before : List Usable) (passed : Passed) : Type 0 where
  pub shown : passed.shown ≡ total (λ row. row.size) before
  pub protected : passed.protected ≡ total protected_part before
  pub cost : passed.cost ≡ amount protected_cost_part before
  pub within : passed.shown ≤ passed.rows * MOST_SIZE
  pub fewer : passed.protected ≤ passed.shown
  pub low : neg_ℤ (pos (passed.rows * 2 ^ 100)) ≤ℤ passed.cost
  pub high : passed.cost ≤ℤ pos (passed.rows * 2 ^ 100)

-- n must be swept at the next price, and they cost that much
abbrev pub IsSweptNext : List Usable → ℕ → ℤ → List Usable → Type 0
IsSweptNext rows shares cost [] = Unit {0}
IsSweptNext rows shares cost (row ∷ later) = (shares ≡ swept row.rank rows) × (cost ≡ swept_cost row.rank rows)

-- the rows in the order of their prices
pub record AreByPrice (rows : List Usable) : Type 0 where
  pub few : length rows ≤ MOST_ROWS
  pub ordered : IsByPrice rows
  pub side : OrderSide
  pub ranks : All (λ row. row.rank ≡ rank_of side row.price) rows

-- the rows of the next price come first of those that are left, and what was protected so far must be swept there
pub record IsPassed (rows : List Usable) (passed : Passed) : Type 0 where
  pub by_price : AreByPrice rows
  pub within : passed.rows ≤ length rows
  pub counted : IsCounted (take passed.rows rows) passed
  pub next : IsSweptNext rows passed.protected passed.cost (drop passed.rows rows)

-- the cutoffs behind the rows that were passed
abbrev pub coming : List Usable → Passed → List Cutoff
coming rows passed = cutoffs_of rows (drop passed.rows rows)
