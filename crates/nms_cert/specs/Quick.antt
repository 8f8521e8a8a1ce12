-- How a plan on a board is found to break no rule: by one look at each leg and one at each usable row. This product's
-- own rule.
use Rattle.std.specs.Prelude.{ℕ, ◌==◌, ◌&&◌, Bool, false, nat_le, nat_lt, List, Option, Some, None}
use Rattle.std.specs.List.{list_all}
use Rattle.std.specs.Ordering.{int_eq}
use Rattle.nms_quote.specs.Terms.{Terms}
use Rattle.nms_quote.specs.declared.order.OrderSide.{OrderSide}
use Rattle.nms_quote.specs.declared.plan.Leg.{Leg}
use Rattle.nms_quote.specs.declared.plan.Plan.{Plan}
use Rattle.nms_board.specs.View.{Seen}
use Rattle.nms_board.specs.declared.row.Row.{Row}
use Rattle.nms_fee_book.specs.Fees.{Charges}
use Rattle.nms_rules.specs.Breach.{has_leg_beyond, row_for}
use Rattle.nms_rules.specs.Faultless.{cost_of, given_by, sum_of}
use Rattle.nms_rules.specs.Usable.{Usable, is_better, is_usable}

-- a leg goes to a usable quotation, at its price, with at least one share and no more than it displays
abbrev pub is_suited : Terms → Leg → Option Row → Bool
is_suited order leg None = false
is_suited order leg (Some row) =
    is_usable order row && leg.price == row.price && nat_lt 0 leg.shares && nat_le leg.shares row.size

-- each leg does
unfoldable pub are_suited : Seen → Terms → List Leg → Bool
are_suited seen order legs = list_all (λ leg. is_suited order leg (row_for seen order.side leg)) legs

-- a protected row gets less than its full size, and some leg has a worse price
abbrev pub is_passed_over : OrderSide → List Leg → Usable → Bool
is_passed_over side legs row = row.protected && has_leg_beyond side row.price legs && nat_lt (given_by legs row.part) row.size

-- a protected row gets less than its full size, and is at a better price than the worst
abbrev pub is_short : OrderSide → ℕ → List Leg → Usable → Bool
is_short side worst legs row = row.protected && is_better side row.price worst && nat_lt (given_by legs row.part) row.size

-- the legs are within what is asked, and the plan sums them rightly
abbrev pub is_summed : Terms → Charges → Plan → Bool
is_summed order fees plan =
    nat_le (sum_of plan.legs.items) order.shares && plan.filled == sum_of plan.legs.items
    && int_eq plan.cost (cost_of fees order.side plan.legs.items)
