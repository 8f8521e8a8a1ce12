-- A plan on a view that is a value.
use Rattle.std.proofs.Common.{◌≡◌, ◌==◌, None, Some, Ok, Err, length, sym, ap, ◌∙◌, subst}
use Rattle.std.specs.Prelude.{IfOk, Result}
use Rattle.std.proofs.lemmas.Bool.{cond-true, eq-eqb}
use Rattle.nms_quote.specs.Roster.{sizes_of}
use Rattle.nms_quote.specs.Terms.{Terms}
use Rattle.nms_board.specs.View.{Seen}
use Rattle.nms_fee_book.specs.Fees.{Charges}
use Rattle.nms_fees.specs.Settings.{Settings}
use Rattle.nms_rules.specs.Accepted.{IsAccepted}
use Rattle.nms_rules.specs.Assignment.{IsOptimal}
use Rattle.nms_rules.specs.Faultless.{given_by}
use Rattle.nms_rules.specs.Usable.{usable}
use Rattle.nms_sweep.specs.Planned.{Planned}
use Rattle.nms_calls.specs.Opened.{error_of}
use Rattle.nms_calls.specs.OrderSaid.{order_said}
use Rattle.nms_calls.specs.PlanNumbers.{AreNumbersOf, IsBestOn}
use Rattle.nms_calls.specs.ViewCalls.{IsPlanned, of_view, order_on}
use Rattle.nms_calls.specs.ViewSaid.{IsSaid}
use Rattle.nms_calls.specs.declared.call_fault.CallFault.{CallFault}
use Rattle.nms_calls.specs.declared.call_fault.CallFault.TheVariants as fault
use Rattle.nms_calls.specs.declared.order_numbers.NmsOrder.{NmsOrder}
use Rattle.nms_calls.specs.declared.plan_numbers.NmsPlan.{NmsPlan}
use Rattle.nms_calls.specs.declared.row_numbers.NmsView.{NmsView}

-- what planning promises of the order that numbers say, on the view that numbers say
pub planned_when : (settings : Settings) (numbers : NmsView) (n : NmsOrder) (out : NmsPlan) (seen : Seen) (order : Terms) (fees : Charges)
    (made : Planned) → IsSaid (length settings.roster.parts) numbers (Some seen) → order_said (sizes_of settings.roster) n ≡ Ok order
    → order.sym ≡ seen.sym → fees ≡ settings.fees → AreNumbersOf made.plan made.cuts out
    → IsAccepted seen order fees made.plan made.cuts → IsOptimal (usable seen order fees) order.shares (given_by made.plan.legs.items)
    → IsPlanned settings numbers n None out
planned_when settings numbers n out seen order fees made said order_is same of_fees are accepted optimal =
    let on : order_on settings (Some seen) n ≡ Ok order =
    ap (of_view seen) order_is ∙ cond-true (order.sym == seen.sym) (Ok order) (Err fault.NoSymbol) (eq-eqb order.sym seen.sym same) in
    let best : IsBestOn seen settings.fees order out =
    subst (λ (f : Charges). IsBestOn seen f order out) of_fees (record {
      plan = made.plan;
      certificate = made.cuts;
      numbers = are;
      accepted = accepted;
      optimal = optimal;
    }) in
    record {
      view = Some seen;
      said = said;
      answer = sym (ap error_of on);
      best = subst (λ (r : Result Terms CallFault). IfOk r (λ terms. IsBestOn seen settings.fees terms out)) (sym on) best;
    }
