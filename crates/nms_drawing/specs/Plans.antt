-- The rows of a day's page that come of a plan: its order, its legs, and the quotations that it could trade with. This product's own
-- rule.
use Rattle.std.specs.Prelude.{ℕ, ◌+◌, Bool, List, [], ◌∷◌, map, not, Option, Some, None, if◌then◌else◌}
use Rattle.nms_quote.specs.declared.order.OrderSide.{OrderSide}
use Rattle.nms_quote.specs.declared.order.OrderSide.TheVariants as side
use Rattle.nms_quote.specs.declared.plan.Leg.{Leg}
use Rattle.nms_quote.specs.declared.plan.Plan.{Plan}
use Rattle.nms_verdicts.specs.declared.plan_report.Quotation.{Quotation}
use Rattle.nms_verdicts.specs.declared.plan_report.Said.{Said}
use Rattle.nms_drawing.specs.Rows.{time_in}
use Rattle.nms_drawing.specs.declared.rows.Window.{Window}

abbrev pub order_cell : OrderSide → ℕ
order_cell side.Buy = 1
order_cell side.Sell = 2

-- a plan of a day; its name and its verdict are texts 1 and 2
abbrev pub plan_row : Window → (day : ℕ) → Plan → List ℕ
plan_row window day plan =
    day ∷ plan.version ∷ time_in window plan.version ∷ order_cell plan.order.side ∷ plan.order.shares ∷ plan.order.limit ∷ plan.filled ∷ 1 ∷ 2 ∷ []

-- a leg of the only plan
abbrev pub leg_row : Leg → List ℕ
leg_row leg = 0 ∷ (leg.part + 1) ∷ leg.price ∷ leg.shares ∷ []

abbrev pub leg_rows : Plan → List (List ℕ)
leg_rows plan = map leg_row plan.legs.items

abbrev pub flag_cell : Bool → ℕ
flag_cell flag = if flag then 1 else 0

-- a quotation, with the place of its note among the texts
abbrev pub quotation_row : (note : ℕ) → Quotation → List ℕ
quotation_row note quotation =
    0 ∷ (quotation.row.part + 1) ∷ quotation.row.price ∷ quotation.row.size ∷ flag_cell (not quotation.row.protected) ∷ quotation.sent
    ∷ flag_cell quotation.is_over ∷ note ∷ []

abbrev pub quotation_rows : (note : ℕ) → List Quotation → List (List ℕ)
quotation_rows note [] = []
quotation_rows note (quotation ∷ rest) = quotation_row note quotation ∷ quotation_rows (note + 1) rest

-- the plans of a page, which may have one, on its first day, with the remarks about it
abbrev pub plans_of : Window → Option (Plan × Said) → List (List ℕ)
plans_of window None = []
plans_of window (Some given) = plan_row window 0 given.0 ∷ []

abbrev pub legs_of : Option (Plan × Said) → List (List ℕ)
legs_of None = []
legs_of (Some given) = leg_rows given.0

abbrev pub quotations_of : Option (Plan × Said) → List (List ℕ)
quotations_of None = []
quotations_of (Some given) = quotation_rows 3 given.1.quotations.items
