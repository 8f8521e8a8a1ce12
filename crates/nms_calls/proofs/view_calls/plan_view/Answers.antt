-- `plan_view`: the planner's promises are of the order that the numbers say, by ViewPlanLemmas.
use Rattle.std.proofs.Common.{◌≡◌, Ok, Some, length, map, ap, sym, ◌∙◌, subst, rules}
use Rattle.nms_quote.specs.Roster.{Listing, sizes_of}
use Rattle.nms_quote.specs.Terms.{Terms}
use Rattle.nms_board.specs.View.{Seen}
use Rattle.nms_sweep.specs.Planned.{Planned, plan_of}
use Rattle.nms_calls.specs.OrderSaid.{order_said}
use Rattle.nms_calls.specs.PlanSaid.{cut_said, cuts_of, leg_said, legs_of}
use Rattle.nms_calls.specs.ViewSaid.{IsSaid}
use Rattle.nms_calls.proofs.ViewPlanLemmas.{planned_when}
use Rattle.nms_calls.proofs.view_calls.plan_view.Goals as goal

pub returns-clause-planned : goal.returns-clause-planned
returns-clause-planned c =
    let settings = c.args.setup.now in
    let seen : Seen = c.in-Some.view in
    let order : Terms = c.in_ok-order.order in
    let written = c.plan_into-outcome.new.out in
    let is = c.plan_into-outcome.ensures.planned in
    let made : Planned =
    record { plan = plan_of order (map leg_said (legs_of written)) c.plan_into-outcome.result; cuts = map cut_said (cuts_of written) } in
    let said : IsSaid (length settings.roster.parts) c.args.numbers.now (Some seen) =
    subst (λ n. IsSaid n c.args.numbers.now (Some seen)) (c.parts.ensures.count ∙ ap (λ (roster : Listing). length roster.parts) c.roster.ensures)
    (subst (IsSaid c.parts.result c.args.numbers.now) c.in-Some.is c.view_of.ensures) in
    let order_is : order_said (sizes_of settings.roster) c.args.order.now ≡ Ok order =
    ap (λ (roster : Listing). order_said (sizes_of roster) c.args.order.now) (sym c.roster-2.ensures) ∙ sym c.in_ok-order.ensures.order in
    let same : order.sym ≡ seen.sym = search rules in
    planned_when settings c.args.numbers.now c.args.order.now c.put_outcome.new.out seen order c.fees.result.now made said order_is same
    c.fees.ensures.value (c.put_outcome.ensures order) is.accepted is.optimal
