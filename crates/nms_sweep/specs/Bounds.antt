-- How wide the numbers of a plan and its certificate are. This product's own rule.
use Rattle.std.specs.Prelude.{ℕ, pos, neg_ℤ, ◌+◌, ◌*◌, ◌^◌, ◌≤◌, ◌≤ℤ◌, List, All}
use Rattle.nms_units.specs.declared.TheConstants.{MOST_SHARES}
use Rattle.nms_quote.specs.declared.certificate.Cut.{Cut}
use Rattle.nms_quote.specs.declared.plan.Plan.{Plan}
use Rattle.nms_sweep.specs.Choice.{IsInRange}

-- the most that a share costs or earns with its fee, in nanodollars: the highest price and the highest fee
abbrev pub most_unit : ℕ
most_unit = 10 ^ 16 + 10 ^ 7

-- no more is filled than an order may ask for, each share costs at most that, either way, and each marginal is
-- within 10^18
pub record IsWithinBounds (plan : Plan) (cuts : List Cut) : Type 0 where
  pub filled : plan.filled ≤ MOST_SHARES
  pub low : neg_ℤ (pos (most_unit * plan.filled)) ≤ℤ plan.cost
  pub high : plan.cost ≤ℤ pos (most_unit * plan.filled)
  pub marginals : All (λ cut. IsInRange cut.kind) cuts
