-- What a lawful plan is: a plan of the view and the order given. Its legs go to quotations of the view at their prices,
-- are a lawful assignment, and are summed rightly. This product's own rule, after 17 CFR 242.600, "intermarket sweep
-- order", and 242.611(b)(5) and (6).
use Rattle.std.specs.Prelude.{ℕ, ℤ, pos, ◌≡◌, ◌≤◌, ◌==◌, ◌+ℤ◌, ◌*ℤ◌, List, [], ◌∷◌, All, Any, map, sum_by, nat_eq, if◌then◌else◌}
use Rattle.std.specs.List.{IsDistinct}
use Rattle.nms_quote.specs.Terms.{Terms}
use Rattle.nms_quote.specs.declared.order.OrderSide.{OrderSide}
use Rattle.nms_quote.specs.declared.plan.Leg.{Leg}
use Rattle.nms_quote.specs.declared.plan.Plan.{Plan}
use Rattle.nms_board.specs.View.{Seen}
use Rattle.nms_fee_book.specs.Fees.{Charges, unit_cost_of}
use Rattle.nms_rules.specs.Assignment.{Assignment, IsLawful}
use Rattle.nms_rules.specs.Usable.{contra_rows, usable}

-- the shares of the legs, by participant place
abbrev pub given_by : List Leg → Assignment
given_by legs part = sum_by (λ leg. if leg.part == part then leg.shares else 0) legs

-- the shares of all legs
abbrev pub sum_of : List Leg → ℕ
sum_of legs = sum_by (λ leg. leg.shares) legs

-- what a leg costs, with its fee
abbrev pub leg_cost : Charges → OrderSide → Leg → ℤ
leg_cost fees side leg = unit_cost_of fees leg.part side leg.price *ℤ pos leg.shares

-- what they all cost
unfoldable pub cost_of : Charges → OrderSide → List Leg → ℤ
cost_of fees side [] = pos 0
cost_of fees side (leg ∷ legs) = leg_cost fees side leg +ℤ cost_of fees side legs

pub record IsFaultless (seen : Seen) (asked : Terms) (fees : Charges) (plan : Plan) : Type 0 where
  pub version : plan.version ≡ seen.version
  pub order : plan.order ≡ asked
  pub symbol : asked.sym ≡ seen.sym
  -- each leg is at least one share, at the price of its participant's quotation, and no two go to one
  pub shares : All (λ leg. 1 ≤ leg.shares) plan.legs.items
  pub prices : All (λ leg. Any (λ row. (row.part ≡ leg.part) × (row.price ≡ leg.price)) (contra_rows asked.side seen)) plan.legs.items
  pub once : IsDistinct nat_eq (map (λ leg. leg.part) plan.legs.items)
  pub lawful : IsLawful (usable seen asked fees) asked.shares (given_by plan.legs.items)
  pub filled : plan.filled ≡ sum_of plan.legs.items
  pub cost : plan.cost ≡ cost_of fees asked.side plan.legs.items
