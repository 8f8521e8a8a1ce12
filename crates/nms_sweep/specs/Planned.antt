-- What an order is planned on, and what its plan with the certificate is: all that the planner promises of it.
use Rattle.std.specs.Prelude.{ℕ, ◌≡◌, List, None}
use Rattle.std.specs.List.Sorted.{IsPermutation}
use Rattle.nms_quote.specs.Terms.{Terms}
use Rattle.nms_quote.specs.declared.certificate.Cut.{Cut}
use Rattle.nms_quote.specs.declared.plan.Leg.{Leg}
use Rattle.nms_quote.specs.declared.plan.Plan.{Plan}
use Rattle.nms_board.specs.View.{AreRows, Seen}
use Rattle.nms_fee_book.specs.Fees.{Charges}
use Rattle.nms_rules.specs.Accepted.{IsAccepted}
use Rattle.nms_rules.specs.Assignment.{IsOptimal, fillable}
use Rattle.nms_rules.specs.Breach.{breach_of}
use Rattle.nms_rules.specs.Faultless.{given_by}
use Rattle.nms_rules.specs.Usable.{usable}
use Rattle.nms_sweep.specs.Cutoffs.{AreCutoffs, Walk, cutoffs_of}
use Rattle.nms_sweep.specs.Filling.{AreExact, FillsInOrder}
use Rattle.nms_sweep.specs.Order.{AreInOrder, IsByPrice}
use Rattle.nms_sweep.specs.declared.plan_room.Outcome.{Outcome}

-- a plan and its certificate
pub record Planned : Type 0 where
  pub plan : Plan
  pub cuts : List Cut

-- a plan of legs for an order, with what else it has
abbrev pub plan_of : Terms → List Leg → Outcome → Plan
plan_of order legs outcome = record {
  version = outcome.version;
  order = order;
  legs = record { items = legs };
  filled = outcome.filled;
  cost = outcome.cost;
}

-- the usable rows of what a look shows, in the order of their prices, with all their cutoffs to come
pub record IsTable (seen : Seen) (order : Terms) (fees : Charges) (number : ℕ) (walk : Walk) : Type 0 where
  pub version : number ≡ seen.version
  pub sym : order.sym ≡ seen.sym
  pub bids : AreRows seen.bids
  pub offers : AreRows seen.offers
  pub rows : IsPermutation (usable seen order fees) walk.rows
  pub ordered : IsByPrice walk.rows
  pub cutoffs : AreCutoffs order.side (usable seen order fees) walk.to_come
  pub all : walk.to_come ≡ cutoffs_of walk.rows walk.rows

-- lawful, of the most shares that can be filled, accepted with its certificate, so optimal, its legs in order, filled in order,
-- and each cut says what its price requires
pub record IsPlanned (seen : Seen) (order : Terms) (fees : Charges) (plan : Plan) (cuts : List Cut) : Type 0 where
  pub lawful : breach_of seen order fees plan ≡ None
  pub most : plan.filled ≡ fillable (usable seen order fees) order.shares
  pub accepted : IsAccepted seen order fees plan cuts
  pub optimal : IsOptimal (usable seen order fees) order.shares (given_by plan.legs.items)
  pub ordered : AreInOrder order.side plan.legs.items
  pub filling : FillsInOrder (usable seen order fees) (given_by plan.legs.items)
  pub exact : AreExact order.side (usable seen order fees) plan.filled cuts
