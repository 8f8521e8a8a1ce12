-- What the text of one record says, and the text of a plan. This product's own rule.
use Rattle.std.specs.Prelude.{◌≡◌, ◌≢◌, ◌<◌, ◌≤◌, ◌==◌, ℕ, Bool, false, nat_le, not, List, length, IfOk, IfSome, Option, Some, None}
use Rattle.std.specs.Prelude.{Result, Ok, Err, if◌then◌else◌}
use Rattle.std.specs.List.{list_all, slice_split}
use Rattle.nms_quote.specs.Roster.{Listing}
use Rattle.nms_quote.specs.Terms.{Terms}
use Rattle.nms_quote.specs.declared.certificate.Cut.{Cut}
use Rattle.nms_quote.specs.declared.change.Change.{Change}
use Rattle.nms_quote.specs.declared.order.OrderSide.{OrderSide}
use Rattle.nms_quote.specs.declared.order.OrderSide.TheVariants as side
use Rattle.nms_quote.specs.declared.plan.Plan.{Plan}
use Rattle.nms_cert.specs.Doubts.{is_out_of_range}
use Rattle.nms_lines.specs.Layout.{Record}
use Rattle.nms_lines.specs.Lines.{reading}
use Rattle.nms_lines.specs.PlanReading.{plan_in, said_by}
use Rattle.nms_lines.specs.PlanText.{plan_text}
use Rattle.nms_lines.specs.Records.{AreAllRecords}
use Rattle.nms_lines.specs.declared.line.Line.{Line}
use Rattle.nms_lines.specs.declared.line.Line.TheVariants as line
use Rattle.nms_lines.specs.declared.line.Reading.TheVariants as from
use Rattle.nms_lines.specs.declared.line_fault.LineFault.{LineFault}
use Rattle.nms_lines.specs.declared.line_fault.LineFault.TheVariants as refused
use Rattle.nms_sweep.specs.Planned.{Planned}
use Rattle.nms_calls.specs.Findings.{made_said}
use Rattle.nms_calls.specs.Opened.{HasApplied, Opened, room_fault, version}
use Rattle.nms_calls.specs.PlanNumbers.{AreNumbersOf}
use Rattle.nms_calls.specs.RowNumbers.{flag}
use Rattle.nms_calls.specs.Written.{text_fault}
use Rattle.nms_calls.specs.declared.TheConstants.{MOST_PLAN_TEXT, MOST_RECORD}
use Rattle.nms_calls.specs.declared.call_fault.CallFault.{CallFault}
use Rattle.nms_calls.specs.declared.call_fault.CallFault.TheVariants as fault
use Rattle.nms_calls.specs.declared.order_numbers.NmsOrder.{NmsOrder}
use Rattle.nms_calls.specs.declared.plan_numbers.NmsPlan.{NmsPlan}

-- ---- a change

-- the fields of a record: the texts between its commas. No quotes are read
abbrev pub fields_in : List ℕ → Record
fields_in text = slice_split (λ byte. byte == 44) text

abbrev pub change_of_line : Line → Result Change CallFault
change_of_line (line.Change change) = Ok change
change_of_line line.TakeOne = Err (fault.Line refused.UnknownKind)
change_of_line line.TakeAll = Err (fault.Line refused.UnknownKind)
change_of_line line.Publish = Err (fault.Line refused.UnknownKind)
change_of_line (line.Tell desk) = Err (fault.Line refused.UnknownKind)
change_of_line (line.Best desk sym) = Err (fault.Line refused.UnknownKind)
change_of_line (line.Through desk sym price) = Err (fault.Line refused.UnknownKind)
change_of_line (line.Sweep desk order) = Err (fault.Line refused.UnknownKind)

abbrev pub change_of_reading : Result Line LineFault → Result Change CallFault
change_of_reading (Err found) = Err (fault.Line found)
change_of_reading (Ok line) = change_of_line line

-- the change that a record says, as in a file of changes, or why it is refused; a record of too many bytes is out of range
abbrev pub record_said : Listing → List ℕ → Result Change CallFault
record_said roster text =
    if nat_le (length text) MOST_RECORD then change_of_reading (reading roster from.Changes (fields_in text)) else Err fault.Range

abbrev pub record_fault : Opened → List ℕ → Option CallFault
record_fault opened text = room_fault (version opened) (record_said opened.settings.roster text)

-- the change that a record says was applied
abbrev pub HasAppliedRecord : List ℕ → Opened → Opened → Type 0
HasAppliedRecord text old new = IfOk (record_said old.settings.roster text) (HasApplied old new)

-- ---- a plan

abbrev pub made_text_fault : Opened → List ℕ → Result (Terms × Planned) CallFault → Option CallFault
made_text_fault opened out (Err found) = Some found
made_text_fault opened out (Ok made) = text_fault (plan_text opened.settings.roster made.1.plan made.1.cuts) out

-- why the text of a plan that numbers say is not written
abbrev pub plan_text_fault : Opened → NmsOrder → NmsPlan → List ℕ → Option CallFault
plan_text_fault opened order plan out = made_text_fault opened out (made_said opened.settings order plan)

abbrev pub side_number : OrderSide → ℕ
side_number side.Buy = 0
side_number side.Sell = 1

-- the numbers of an order
abbrev pub order_numbers : Terms → NmsOrder
order_numbers order = record {
  limit = order.limit;
  shares = order.shares;
  self_help = order.self_help;
  sym = order.sym;
  side = side_number order.side;
  manual = flag order.manual;
  spare = 0;
}

-- each marginal within 10^18 either way
abbrev pub are_narrow : List Cut → Bool
are_narrow cuts = list_all (λ cut. not (is_out_of_range cut.kind)) cuts

-- numbers of the plan, its order and its certificate that records say
pub record IsRead (roster : Listing) (records : List Record) (order : NmsOrder) (out : NmsPlan) : Type 0 where
  pub plan : Plan
  pub certificate : List Cut
  pub said : plan_in roster records ≡ Some (said_by plan certificate)
  pub order_of : order ≡ order_numbers plan.order
  pub numbers : AreNumbersOf plan certificate out

-- the result of reading a plan from a text: its numbers if there is no fault, else the fault, and nothing written. A text of
-- too many bytes is out of range, and so is a marginal that does not fit the numbers
pub record PlanRead (roster : Listing) (text : List ℕ) (told : Option CallFault) (old_order order : NmsOrder) (old out : NmsPlan) : Type
    0 where
  pub read : told ≡ None → (records : List Record) → AreAllRecords (Some text) records → IsRead roster records order out
  pub refused : told ≡ Some fault.PlanText → (records : List Record) → AreAllRecords (Some text) records → plan_in roster records ≡ None
  pub long : MOST_PLAN_TEXT < length text → told ≡ Some fault.Range
  pub wide : told ≡ Some fault.Range → length text ≤ MOST_PLAN_TEXT → (records : List Record) → AreAllRecords (Some text) records
      → IfSome (plan_in roster records) (λ said. are_narrow said.cuts ≡ false)
  pub unwritten : told ≢ None → (order ≡ old_order) × (out ≡ old)
