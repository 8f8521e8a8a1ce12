-- What a desk plans on the board that it is shown. This product's own rule.
use Rattle.std.specs.Prelude.{ℕ, ◌≡◌}
use Rattle.nms_quote.specs.declared.answer.Answer.{Answer}
use Rattle.nms_quote.specs.declared.desk_order.DeskOrder.{DeskOrder}
use Rattle.nms_board.specs.Cells.{Board}
use Rattle.nms_board.specs.Shown.{seen_on}
use Rattle.nms_sweep.specs.Planned.{IsPlanned, Planned}
use Rattle.nms_live.specs.declared.planning.Planning.{Planning}

-- the order was planned on what the board shows of its symbol
pub record HasPlanned (before : Planning) (board : Board) (after : Planning) : Type 0 where
  pub setup : after.setup.now ≡ before.setup.now
  pub order : after.order ≡ before.order
  pub planned : IsPlanned (seen_on board before.order.sym) before.order before.setup.now.fees after.planner.plan after.planner.cuts

-- the answer to a desk's order with its number, of what was planned
abbrev pub answer_to : ℕ × DeskOrder → Planned → Answer
answer_to order planned = record {
  desk = order.1.desk;
  number = order.0;
  plan = planned.plan;
  certificate = record { items = planned.cuts };
}
