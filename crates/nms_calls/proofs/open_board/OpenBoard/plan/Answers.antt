-- `plan`: the planner's promises are of the order that the numbers say, and of the look's version once the plan has it.
use Rattle.std.proofs.Common.{◌≡◌, Ok, map, sym, subst, ap, ◌∙◌, refl}
use Rattle.std.specs.Prelude.{IfOk}
use Rattle.nms_quote.specs.Roster.{Listing, sizes_of}
use Rattle.nms_board.specs.Cells.{Board}
use Rattle.nms_board.specs.Shown.{seen_on}
use Rattle.nms_rules.specs.Accepted.{IsAccepted}
use Rattle.nms_rules.specs.Assignment.{IsOptimal}
use Rattle.nms_rules.specs.Faultless.{given_by}
use Rattle.nms_rules.specs.Usable.{usable}
use Rattle.nms_sweep.specs.Planned.{Planned, plan_of}
use Rattle.nms_calls.specs.Opened.{Opened, sizes_on}
use Rattle.nms_calls.specs.OrderSaid.{order_said}
use Rattle.nms_calls.specs.PlanNumbers.{IsBestPlan}
use Rattle.nms_calls.specs.PlanSaid.{cut_said, cuts_of, leg_said, legs_of}
use Rattle.nms_calls.proofs.OpenedLemmas.{best_when}
use Rattle.nms_calls.proofs.open_board.OpenBoard.plan.Goals as goal

pub returns-clause-best : goal.returns-clause-best
returns-clause-best c =
    let opened : Opened =
    record { settings = c.self.inside.setup; board = c.self.inside.rolling.board; before = c.self.inside.rolling.before } in
    let n = c.args.numbers.now in let order = c.in_ok-order.order in let fees = c.fees.result.now in
    let written = c.plan_on-outcome.new.out in let is = c.plan_on-outcome.ensures.planned in
    let made : Planned =
    record { plan = plan_of order (map leg_said (legs_of written)) c.plan_on-outcome.result; cuts = map cut_said (cuts_of written) } in
    let numbers = c.put_outcome.new.out in let counted = c.version-version.result in
    let said : order_said (sizes_on opened) n ≡ Ok order =
    ap (λ (roster : Listing). order_said (sizes_of roster) n) (sym c.roster.ensures) ∙ sym c.in_ok-order.ensures.order in
    let accepted : IsAccepted (seen_on opened.board order.sym) order fees made.plan made.cuts =
    subst (λ (b : Board). IsAccepted (seen_on b order.sym) order fees made.plan made.cuts) c.board.ensures is.accepted in
    let optimal : IsOptimal (usable (seen_on opened.board order.sym) order fees) order.shares (given_by made.plan.legs.items) =
    subst (λ (b : Board). IsOptimal (usable (seen_on b order.sym) order fees) order.shares (given_by made.plan.legs.items))
    c.board.ensures is.optimal in
    subst (λ (o : Opened). IfOk (order_said (sizes_on o) n) (λ order. IsBestPlan o order (record numbers { version = counted })))
    c.self.view_is
    (best_when opened n order fees made made.plan made.cuts numbers counted said c.fees.ensures.value refl refl
    (c.put_outcome.ensures order) c.version-version.ensures accepted optimal)
