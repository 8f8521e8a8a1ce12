-- What the cheapest shares of a pool cost. This product's own rule.
use Rattle.std.specs.Prelude.{ℕ, ℤ, pos, ◌-◌, ◌+ℤ◌, ◌*ℤ◌, min, List, [], ◌∷◌}
use Rattle.nms_rules.specs.Cutoff.{pool_part}
use Rattle.nms_rules.specs.Usable.{Usable}

-- what n shares of the pool cost, for rows in the order of their costs: each row gives the shares that are still needed
unfoldable pub taken_cost : ℤ → ℕ → List Usable → ℤ
taken_cost cutoff number [] = pos 0
taken_cost cutoff number (row ∷ rows) = row.cost *ℤ pos (min number (pool_part cutoff row)) +ℤ taken_cost cutoff (number
    - pool_part cutoff row) rows
