-- `plan_all`: how far it came, and what was written.
use Rattle.std.proofs.Common.{◌≡◌, None, fold, length, take}
use Rattle.std.specs.Result.{IfOk}
use Rattle.nms_calls.specs.Batches.{AreAnswers, called}
use Rattle.nms_calls.specs.Opened.{Progress, from_start, order_fault, sizes_on}
use Rattle.nms_calls.specs.OrderSaid.{order_said}
use Rattle.nms_calls.specs.PlanNumbers.{IsBestPlan}
use Rattle.nms_calls.proofs.open_board.OpenBoard.plan_all.Given as goal

abbrev pub invariant-loop-order : goal.invariant-loop-order
invariant-loop-order l =
    let reached : Progress = record { applied = l.place; fault = None } in
    record {
      counted : l.place ≡ l.order-index;
      room : length l.out ≡ length l.fn.out;
      reached_is : reached ≡ fold (called (order_fault l.self)) from_start (take l.order-index l.orders);
      best : AreAnswers (λ numbers plan. IfOk (order_said (sizes_on l.self) numbers) (λ order. IsBestPlan l.self order plan))
          l.orders l.out l.place;
    }
