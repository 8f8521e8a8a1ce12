-- What is found about a plan that numbers say. This product's own rule.
use Rattle.std.specs.Prelude.{length, Option, Some, None, Result, Ok, Err}
use Rattle.nms_quote.specs.Roster.{sizes_of}
use Rattle.nms_quote.specs.Terms.{Terms}
use Rattle.nms_cert.specs.Doubts.{doubt_of}
use Rattle.nms_cert.specs.declared.doubt.Doubt.{Doubt}
use Rattle.nms_fees.specs.Settings.{Settings}
use Rattle.nms_sweep.specs.Planned.{Planned}
use Rattle.nms_calls.specs.DoubtNumbers.{doubt_numbers, no_doubt}
use Rattle.nms_calls.specs.Opened.{Opened, seen_of}
use Rattle.nms_calls.specs.OrderSaid.{order_said}
use Rattle.nms_calls.specs.PlanSaid.{plan_said}
use Rattle.nms_calls.specs.declared.call_fault.CallFault.{CallFault}
use Rattle.nms_calls.specs.declared.call_fault.CallFault.TheVariants as fault
use Rattle.nms_calls.specs.declared.doubt_numbers.NmsDoubt.{NmsDoubt}
use Rattle.nms_calls.specs.declared.order_numbers.NmsOrder.{NmsOrder}
use Rattle.nms_calls.specs.declared.plan_numbers.NmsPlan.{NmsPlan}

-- what is doubtful of a plan for an order
abbrev pub doubt_on : Opened → Terms → Planned → Option Doubt
doubt_on opened order made = doubt_of (seen_of opened order.sym) order opened.settings.fees made.plan made.cuts

abbrev pub with_order : Terms → Result Planned CallFault → Result (Terms × Planned) CallFault
with_order order (Err found) = Err found
with_order order (Ok made) = Ok (order, made)

-- the plan that numbers say for the order that numbers say: the order is checked first
abbrev pub made_for : Settings → NmsPlan → Result Terms CallFault → Result (Terms × Planned) CallFault
made_for settings plan (Err found) = Err found
made_for settings plan (Ok order) = with_order order (plan_said (length settings.roster.parts) order plan)

abbrev pub made_said : Settings → NmsOrder → NmsPlan → Result (Terms × Planned) CallFault
made_said settings order plan = made_for settings plan (order_said (sizes_of settings.roster) order)

-- the finding about it
abbrev pub found_of : Opened → Result (Terms × Planned) CallFault → Result (Option Doubt) CallFault
found_of opened (Err found) = Err found
found_of opened (Ok made) = Ok (doubt_on opened made.0 made.1)

abbrev pub finding : Opened → NmsOrder → NmsPlan → Result (Option Doubt) CallFault
finding opened order plan = found_of opened (made_said opened.settings order plan)

-- why a plan is not confirmed
abbrev pub doubted : Result (Option Doubt) CallFault → Option CallFault
doubted (Err found) = Some found
doubted (Ok None) = None
doubted (Ok (Some doubt)) = Some fault.Doubted

abbrev pub confirm_fault : Opened → NmsOrder → NmsPlan → Option CallFault
confirm_fault opened order plan = doubted (finding opened order plan)

-- what a finding writes over the numbers before
abbrev pub doubt_written : NmsDoubt → Result (Option Doubt) CallFault → NmsDoubt
doubt_written out (Err found) = out
doubt_written out (Ok None) = no_doubt
doubt_written out (Ok (Some doubt)) = doubt_numbers doubt
