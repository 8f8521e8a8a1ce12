-- What a call on a view answers, by the terms: the roster and the fees of a setup. This product's own rule.
use Rattle.std.specs.Prelude.{◌≡◌, ◌==◌, ◌&&◌, ℕ, nat_le, length, IfOk, IfSome, Option, Some, None, Result, Ok, Err, if◌then◌else◌}
use Rattle.nms_quote.specs.Roster.{sizes_of}
use Rattle.nms_quote.specs.Terms.{Terms}
use Rattle.nms_board.specs.View.{Seen}
use Rattle.nms_cert.specs.Doubts.{doubt_of}
use Rattle.nms_cert.specs.declared.doubt.Doubt.{Doubt}
use Rattle.nms_fees.specs.Settings.{Settings}
use Rattle.nms_sweep.specs.Planned.{Planned}
use Rattle.nms_calls.specs.Findings.{doubt_written, doubted, made_said}
use Rattle.nms_calls.specs.Opened.{error_of}
use Rattle.nms_calls.specs.OrderSaid.{order_said}
use Rattle.nms_calls.specs.PlanNumbers.{IsBestOn}
use Rattle.nms_calls.specs.RowNumbers.{AreThroughOn}
use Rattle.nms_calls.specs.ViewSaid.{IsSaid}
use Rattle.nms_calls.specs.declared.TheConstants.{MOST_MILLIONTHS}
use Rattle.nms_calls.specs.declared.call_fault.CallFault.{CallFault}
use Rattle.nms_calls.specs.declared.call_fault.CallFault.TheVariants as fault
use Rattle.nms_calls.specs.declared.doubt_numbers.NmsDoubt.{NmsDoubt}
use Rattle.nms_calls.specs.declared.order_numbers.NmsOrder.{NmsOrder}
use Rattle.nms_calls.specs.declared.plan_numbers.NmsPlan.{NmsPlan}
use Rattle.nms_calls.specs.declared.row_numbers.NmsThrough.{NmsThrough}
use Rattle.nms_calls.specs.declared.row_numbers.NmsView.{NmsView}

-- ---- a plan

-- an order of the view's symbol
abbrev pub of_view : Seen → Result Terms CallFault → Result Terms CallFault
of_view seen (Err found) = Err found
of_view seen (Ok order) = if order.sym == seen.sym then Ok order else Err fault.NoSymbol

-- the order that numbers say for a view: the view is checked first, then the order, then that it is of the view's symbol
abbrev pub order_on : Settings → Option Seen → NmsOrder → Result Terms CallFault
order_on settings None order = Err fault.NoView
order_on settings (Some seen) order = of_view seen (order_said (sizes_of settings.roster) order)

-- what planning on numbers of a view answers and writes
pub record IsPlanned (settings : Settings) (numbers : NmsView) (order : NmsOrder) (told : Option CallFault) (out : NmsPlan) : Type 0 where
  pub view : Option Seen
  pub said : IsSaid (length settings.roster.parts) numbers view
  pub answer : told ≡ error_of (order_on settings view order)
  pub best : IfSome view (λ seen. IfOk (order_on settings view order) (λ terms. IsBestOn seen settings.fees terms out))

-- ---- a plan to confirm

-- the finding about a plan for an order on a view: the view is checked first, then the order, then the plan's numbers. An order
-- of another symbol is a finding (P2)
abbrev pub found_on : Settings → Seen → Result (Terms × Planned) CallFault → Result (Option Doubt) CallFault
found_on settings seen (Err found) = Err found
found_on settings seen (Ok made) = Ok (doubt_of seen made.0 settings.fees made.1.plan made.1.cuts)

abbrev pub finding_on : Settings → Option Seen → NmsOrder → NmsPlan → Result (Option Doubt) CallFault
finding_on settings None order plan = Err fault.NoView
finding_on settings (Some seen) order plan = found_on settings seen (made_said settings order plan)

-- what a check on numbers of a view answers and writes
pub record IsChecked (settings : Settings) (numbers : NmsView) (order : NmsOrder) (plan : NmsPlan) (told : Option CallFault)
    (old out : NmsDoubt) : Type 0 where
  pub view : Option Seen
  pub said : IsSaid (length settings.roster.parts) numbers view
  pub answer : told ≡ doubted (finding_on settings view order plan)
  pub written : out ≡ doubt_written old (finding_on settings view order plan)

-- ---- what a price trades through

-- why it is not written: the view is checked first
abbrev pub through_fault_on : Option Seen → ℕ → Option CallFault
through_fault_on None millionths = Some fault.NoView
through_fault_on (Some seen) millionths = if nat_le 1 millionths && nat_le millionths MOST_MILLIONTHS then None else Some fault.Range

-- what a price trades through on numbers of a view
pub record IsThrough (numbers : NmsView) (millionths : ℕ) (told : Option CallFault) (out : NmsThrough) : Type 0 where
  pub view : Option Seen
  pub said : IsSaid 32 numbers view
  pub answer : told ≡ through_fault_on view millionths
  pub through : told ≡ None → IfSome view (λ seen. AreThroughOn seen millionths out)
