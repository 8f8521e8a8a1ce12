-- Sums over rows.
use Rattle.std.proofs.Common.{ℕ, ◌≤◌, List, [], ◌∷◌, arith}
use Rattle.nms_rules.specs.Assignment.{total}
use Rattle.nms_rules.specs.Usable.{Usable}
pub use Rattle.nms_rules.proofs.Offered.{amount_append, amount_same, total_append, total_same}

pub total_at_most : (less more : Usable → ℕ) (rows : List Usable) → ((row : Usable) → less row ≤ more row)
    → total less rows ≤ total more rows
unfolding total
total_at_most less more [] each = omega arith
total_at_most less more (row ∷ rows) each = omega (arith, each row, total_at_most less more rows each)
