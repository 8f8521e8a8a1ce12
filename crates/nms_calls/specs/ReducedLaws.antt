-- The laws above a reduced view: its numbers say it and no other view, so a plan on them is one on it, and a lawful plan on it
-- takes no more than the given shares. This product's own rule.
use Rattle.std.specs.Prelude.{◌≡◌, ◌≤◌, ℕ, slice_index, All, IfOk, List, length, Option, Some}
use Rattle.nms_quote.specs.Terms.{Terms}
use Rattle.nms_quote.specs.declared.plan.Plan.{Plan}
use Rattle.nms_quote.specs.declared.side_quote.Side.{Side}
use Rattle.nms_board.specs.View.{Seen}
use Rattle.nms_fee_book.specs.Fees.{Charges}
use Rattle.nms_fees.specs.Settings.{Settings}
use Rattle.nms_rules.specs.Faultless.{IsFaultless}
use Rattle.nms_rules.specs.Usable.{contra}
use Rattle.nms_calls.specs.Opened.{error_of}
use Rattle.nms_calls.specs.PlanNumbers.{IsBestOn}
use Rattle.nms_calls.specs.ViewCalls.{IsPlanned, order_on}
use Rattle.nms_calls.specs.ViewReduced.{AreOfView, reduced_view}
use Rattle.nms_calls.specs.ViewSaid.{IsSaid, IsViewSaid}
use Rattle.nms_calls.specs.declared.call_fault.CallFault.{CallFault}
use Rattle.nms_calls.specs.declared.order_numbers.NmsOrder.{NmsOrder}
use Rattle.nms_calls.specs.declared.plan_numbers.NmsPlan.{NmsPlan}
use Rattle.nms_calls.specs.declared.row_numbers.NmsView.{NmsView}

-- numbers say at most one view, on rosters of any size
abbrev pub NumbersSayOneView : Type 0
NumbersSayOneView =
    (parts others : ℕ) (seen other : Seen) (numbers : NmsView)
    → IsViewSaid parts seen numbers → IsViewSaid others other numbers → seen ≡ other

-- the numbers of a reduced view say it, on each roster on which the view's own numbers said that view
abbrev pub ReducedNumbersSayTheView : Type 0
ReducedNumbersSayTheView =
    (parts : ℕ) (side : Side) (most : List ℕ) (seen : Seen) (numbers out : NmsView)
    → IsViewSaid parts seen numbers → AreOfView (reduced_view side most seen) out → IsViewSaid parts (reduced_view side most seen) out

-- so that is what a call on a view reads
abbrev pub ReducedNumbersAreReadSo : Type 0
ReducedNumbersAreReadSo =
    (parts : ℕ) (side : Side) (most : List ℕ) (seen : Seen) (numbers out : NmsView) (read : Option Seen)
    → IsViewSaid parts seen numbers → AreOfView (reduced_view side most seen) out → IsSaid parts out read
    → read ≡ Some (reduced_view side most seen)

-- what planning on a view answers and writes
pub record IsPlannedOn (settings : Settings) (seen : Seen) (order : NmsOrder) (told : Option CallFault) (out : NmsPlan) : Type 0 where
  pub answer : told ≡ error_of (order_on settings (Some seen) order)
  pub best : IfOk (order_on settings (Some seen) order) (λ terms. IsBestOn seen settings.fees terms out)

-- so a plan on those numbers is one on the reduced view
abbrev pub PlansAreOnTheReducedView : Type 0
PlansAreOnTheReducedView =
    (settings : Settings) (side : Side) (most : List ℕ) (seen : Seen) (numbers reduced : NmsView) (order : NmsOrder)
    (told : Option CallFault) (out : NmsPlan)
    → IsViewSaid (length settings.roster.parts) seen numbers → AreOfView (reduced_view side most seen) reduced
    → IsPlanned settings reduced order told out → IsPlannedOn settings (reduced_view side most seen) order told out

-- a lawful plan on a view whose side that it trades with is reduced sends no participant more than its number of shares
abbrev pub LawfulPlansTakeNoMore : Type 0
LawfulPlansTakeNoMore =
    (seen : Seen) (most : List ℕ) (order : Terms) (fees : Charges) (plan : Plan)
    → IsFaultless (reduced_view (contra order.side) most seen) order fees plan
    → All (λ leg. leg.shares ≤ slice_index most leg.part) plan.legs.items
