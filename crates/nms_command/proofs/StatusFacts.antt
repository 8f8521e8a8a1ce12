-- The exit status of a fault is never that of a request that was served.
use Rattle.std.proofs.Common.{ℕ, ◌≡◌, ◌<◌, refl, arith}
use Rattle.nms_fees.specs.Faults as setup_faults
use Rattle.nms_fees.specs.declared.setup_fault.SetupFault.{SetupFault}
use Rattle.nms_fees.specs.declared.setup_fault.SetupFault.TheVariants as setup
use Rattle.nms_file_answers.specs.Faults as answer_faults
use Rattle.nms_file_answers.specs.declared.plan_fault.PlanFault.{PlanFault}
use Rattle.nms_file_answers.specs.declared.plan_fault.PlanFault.TheVariants as plan
use Rattle.nms_file_answers.specs.declared.report_fault.ReportFault.{ReportFault}
use Rattle.nms_file_answers.specs.declared.report_fault.ReportFault.TheVariants as report
use Rattle.nms_files.specs.Faults as file_faults
use Rattle.nms_files.specs.declared.changes_fault.ChangesFault.{ChangesFault}
use Rattle.nms_files.specs.declared.changes_fault.ChangesFault.TheVariants as changes
use Rattle.nms_files.specs.declared.feed_fault.FeedFault.{FeedFault}
use Rattle.nms_files.specs.declared.feed_fault.FeedFault.TheVariants as feed
use Rattle.nms_files.specs.declared.orders_fault.OrdersFault.{OrdersFault}
use Rattle.nms_files.specs.declared.orders_fault.OrdersFault.TheVariants as orders
use Rattle.nms_lines.specs.PlanFaults as plan_faults
use Rattle.nms_lines.specs.RecordFaults as record_faults
use Rattle.nms_lines.specs.declared.plan_text_fault.PlanTextFault.{PlanTextFault}
use Rattle.nms_lines.specs.declared.plan_text_fault.PlanTextFault.TheVariants as plan_text
use Rattle.nms_lines.specs.declared.record_fault.RecordFault.{RecordFault}
use Rattle.nms_lines.specs.declared.record_fault.RecordFault.TheVariants as read
use Rattle.nms_text.specs.Faults as text_faults
use Rattle.nms_text.specs.declared.script_fault.ScriptFault.{ScriptFault}
use Rattle.nms_text.specs.declared.script_fault.ScriptFault.TheVariants as script
use Rattle.nms_text.specs.declared.text_fault.TextFault.{TextFault}
use Rattle.nms_text.specs.declared.text_fault.TextFault.TheVariants as told_text
use Rattle.nms_words.specs.Faults as words_faults
use Rattle.nms_words.specs.declared.words_fault.WordsFault.{WordsFault}
use Rattle.nms_words.specs.declared.words_fault.WordsFault.TheVariants as words
use Rattle.nms_command.specs.Statuses.{status_of, status_of_ending}
use Rattle.nms_command.specs.declared.command_fault.CommandFault.{CommandFault}
use Rattle.nms_command.specs.declared.command_fault.CommandFault.TheVariants as command
use Rattle.nms_command.specs.declared.ending.Ending.{Ending}
use Rattle.nms_command.specs.declared.ending.Ending.TheVariants as ending

-- 1 to 7, and not 4
abbrev pub IsFaultStatus : ℕ → Type 0
IsFaultStatus status = (status < 8) × (status ≡ 0 → ⊥) × (status ≡ 4 → ⊥)

one : IsFaultStatus 1
one = (omega arith, λ e. omega arith, λ e. omega arith)

two : IsFaultStatus 2
two = (omega arith, λ e. omega arith, λ e. omega arith)

three : IsFaultStatus 3
three = (omega arith, λ e. omega arith, λ e. omega arith)

pub five : IsFaultStatus 5
five = (omega arith, λ e. omega arith, λ e. omega arith)

pub six : IsFaultStatus 6
six = (omega arith, λ e. omega arith, λ e. omega arith)

pub seven : IsFaultStatus 7
seven = (omega arith, λ e. omega arith, λ e. omega arith)

record_status : (fault : RecordFault) → IsFaultStatus (record_faults.status_of fault)
record_status read.Failed = one
record_status read.NoMemory = five

pub text_status : (fault : TextFault) → IsFaultStatus (text_faults.status_of_text fault)
text_status told_text.NoMemory = five
text_status told_text.WriteFault = one

changes_status : (fault : ChangesFault) → IsFaultStatus (file_faults.status_of_changes fault)
changes_status (changes.Record fault) = record_status fault
changes_status (changes.Line line) = six
changes_status changes.TapeFull = six

orders_status : (fault : OrdersFault) → IsFaultStatus (file_faults.status_of_orders fault)
orders_status (orders.Record fault) = record_status fault
orders_status (orders.Line line) = six

feed_status : (fault : FeedFault) → IsFaultStatus (file_faults.status_of_feed fault)
feed_status (feed.Record fault) = record_status fault
feed_status feed.TooLong = six

report_status : (fault : ReportFault) → IsFaultStatus (answer_faults.status_of_report fault)
report_status (report.Changes inner) = changes_status inner
report_status (report.Board board) = five
report_status report.WriteFault = one
report_status report.NoMemory = five

plan_status : (fault : PlanFault) → IsFaultStatus (answer_faults.status_of_plan fault)
plan_status (plan.Changes inner) = changes_status inner
plan_status (plan.Board board) = five
plan_status (plan.Text fault) = text_status fault

setup_status : (fault : SetupFault) → IsFaultStatus (setup_faults.status_of fault)
setup_status setup.NotToml = three
setup_status setup.Missing = three
setup_status setup.UnknownKey = three
setup_status setup.BadName = three
setup_status setup.WrongType = three
setup_status setup.OutOfRange = three
setup_status setup.OverCap = three
setup_status setup.TooMany = three
setup_status setup.NoMemory = five

script_status : (fault : ScriptFault) → IsFaultStatus (text_faults.status_of_script fault)
script_status script.ReadFault = one
script_status script.WriteFault = one
script_status script.TooLong = six
script_status script.NoMemory = five

plan_text_status : (fault : PlanTextFault) → IsFaultStatus (plan_faults.status_of fault)
plan_text_status plan_text.BadPlanText = six
plan_text_status plan_text.NoMemory = five
plan_text_status plan_text.WriteFault = one

words_status : (fault : WordsFault) → IsFaultStatus (words_faults.status_of fault)
words_status (words.Parser told help) = two
words_status words.NoMemory = five

pub fault_status : (fault : CommandFault) → IsFaultStatus (status_of fault)
fault_status (command.Words fault) = words_status fault
fault_status command.Usage = two
fault_status command.Unreadable = one
fault_status (command.Setup fault) = setup_status fault
fault_status (command.Script fault) = script_status fault
fault_status (command.Report fault) = report_status fault
fault_status (command.Changes fault) = changes_status fault
fault_status (command.Plan fault) = plan_status fault
fault_status (command.PlanText fault) = plan_text_status fault
fault_status command.NoAudit = five
fault_status (command.Feed fault) = feed_status fault
fault_status (command.Orders fault) = orders_status fault

-- the status of a request shows how it ended
pub done_by : (ends : Ending) → status_of_ending ends ≡ 0 → ends ≡ ending.Done
done_by ending.Done is = refl
done_by ending.NotConfirmed is = absurd (omega arith)

pub judged_by : (ends : Ending) → status_of_ending ends ≡ 4 → ends ≡ ending.NotConfirmed
judged_by ending.Done is = absurd (omega arith)
judged_by ending.NotConfirmed is = refl
