-- `plan_all`: how far it came, and what was written.
use Rattle.std.proofs.Common.{◌≡◌, ◌∙◌, ◌+◌, ℕ, None, arith, ap, get_or, rules, subst, sym}
use Rattle.std.proofs.lemmas.List.{length-set}
use Rattle.nms_calls.specs.Batches.{all_called}
use Rattle.nms_calls.specs.Opened.{Progress, order_fault, sizes_on}
use Rattle.nms_calls.specs.Opened.{Opened}
use Rattle.nms_calls.specs.OrderSaid.{order_said}
use Rattle.nms_calls.specs.PlanNumbers.{IsBestPlan}
use Rattle.std.specs.Result.{IfOk}
use Rattle.nms_calls.specs.declared.order_numbers.NmsOrder.{NmsOrder}
use Rattle.nms_calls.specs.declared.plan_numbers.NmsPlan.{NmsPlan}
use Rattle.nms_calls.proofs.BatchLemmas.{answered-one_more, refused-at, with_room, written-one_more}
use Rattle.nms_calls.proofs.open_board.OpenBoard.plan_all.Goals as goal

-- an order used for one past the last
abbrev none : NmsOrder
none = record { limit = 0; shares = 0; self_help = 0; sym = 0; side = 0; manual = 0; spare = 0 }

abbrev IsAnswer : Opened → NmsOrder → NmsPlan → Type 0
IsAnswer opened numbers plan = IfOk (order_said (sizes_on opened) numbers) (λ order. IsBestPlan opened order plan)

pub returns-in-Err-clause-answer : goal.returns-in-Err-clause-answer
returns-in-Err-clause-answer c =
    let stopped : Progress = all_called (order_fault c.args.self.now) c.args.orders.now in
    ap (λ (p : Progress). p.fault) (refused-at (order_fault c.args.self.now) c.args.orders.now c.loop-order.order-index c.loop-order.place none
    c.in-Err.fault c.loop-order-test.true c.loop-order.invariant.reached_is (sym c.in-Err.ensures.answer)
    ∙ with_room c.args.orders.now c.args.out.now stopped (omega (arith, c.if-out-orders.false)))

pub returns-in-Err-clause-done : goal.returns-in-Err-clause-done
returns-in-Err-clause-done c =
    let stopped : Progress = all_called (order_fault c.args.self.now) c.args.orders.now in
    ap (λ (p : Progress). p.applied) (refused-at (order_fault c.args.self.now) c.args.orders.now c.loop-order.order-index c.loop-order.place none
    c.in-Err.fault c.loop-order-test.true c.loop-order.invariant.reached_is (sym c.in-Err.ensures.answer)
    ∙ with_room c.args.orders.now c.args.out.now stopped (omega (arith, c.if-out-orders.false)))

pub loop-order-preserved : goal.loop-order-preserved
loop-order-preserved c =
    let fine : order_fault c.args.self.now (get_or c.args.orders.now c.loop-order.order-index none) ≡ None = search rules in
    let best : IsAnswer c.args.self.now (get_or c.args.orders.now c.loop-order.order-index none) c.plan.new.out = search rules in
    record {
      counted = ap (λ (n : ℕ). n + 1) c.loop-order.invariant.counted;
      room = length-set c.loop-order.out c.loop-order.place c.plan.new.out ∙ c.loop-order.invariant.room;
      reached_is = answered-one_more (order_fault c.args.self.now) c.args.orders.now c.loop-order.order-index c.loop-order.place none
          c.loop-order-test.true c.loop-order.invariant.reached_is fine;
      best = written-one_more (IsAnswer c.args.self.now) c.args.orders.now c.loop-order.out c.loop-order.place none c.plan.new.out
          (omega (arith, c.loop-order.invariant.counted, c.loop-order-test.true))
          (omega (arith, c.loop-order.invariant.counted, c.loop-order-test.true, c.loop-order.invariant.room, c.if-out-orders.false))
          c.loop-order.invariant.best
          (subst (λ (n : ℕ). IsAnswer c.args.self.now (get_or c.args.orders.now n none) c.plan.new.out) (sym c.loop-order.invariant.counted) best);
    }
