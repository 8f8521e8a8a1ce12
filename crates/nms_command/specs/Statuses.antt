-- The exit status of each fault of a request, and the code that its line on standard error names: those that the crate of
-- the fault gives it. This product's own rule: 1 for streams and files, 2 for words, 3 for the setup, 5 for memory, 6 for
-- lines, plans and lengths.
use Rattle.std.specs.Prelude.{ℕ, List, codes}
use Rattle.nms_command.specs.declared.command_fault.CommandFault.{CommandFault}
use Rattle.nms_command.specs.declared.command_fault.CommandFault.TheVariants as fault
use Rattle.nms_command.specs.declared.ending.Ending.{Ending}
use Rattle.nms_command.specs.declared.ending.Ending.TheVariants as ending
use Rattle.nms_fees.specs.Faults as setup_faults
use Rattle.nms_file_answers.specs.Faults as answer_faults
use Rattle.nms_files.specs.Faults as file_faults
use Rattle.nms_lines.specs.PlanFaults as plan_faults
use Rattle.nms_text.specs.Faults as text_faults
use Rattle.nms_words.specs.Faults as words_faults

-- how a request ends that was served: with 0, or with 4 if a plan was judged and is not confirmed
abbrev pub status_of_ending : Ending → ℕ
status_of_ending ending.Done = 0
status_of_ending ending.NotConfirmed = 4

abbrev pub status_of : CommandFault → ℕ
status_of (fault.Words own) = words_faults.status_of own
status_of fault.Usage = 2
status_of fault.Unreadable = 1
status_of (fault.Setup own) = setup_faults.status_of own
status_of (fault.Script own) = text_faults.status_of_script own
status_of (fault.Report own) = answer_faults.status_of_report own
status_of (fault.Changes own) = file_faults.status_of_changes own
status_of (fault.Plan own) = answer_faults.status_of_plan own
status_of (fault.PlanText own) = plan_faults.status_of own
status_of fault.NoAudit = 5
status_of (fault.Feed own) = file_faults.status_of_feed own
status_of (fault.Orders own) = file_faults.status_of_orders own

-- the code that the line on standard error names
abbrev pub code_of : CommandFault → List ℕ
code_of (fault.Words own) = codes "G2"
code_of fault.Usage = codes "usage"
code_of fault.Unreadable = codes "E1"
code_of (fault.Setup own) = setup_faults.code_of own
code_of (fault.Script own) = text_faults.code_of_script own
code_of (fault.Report own) = answer_faults.code_of_report own
code_of (fault.Changes own) = file_faults.code_of_changes own
code_of (fault.Plan own) = answer_faults.code_of_plan own
code_of (fault.PlanText own) = plan_faults.code_of own
code_of fault.NoAudit = codes "A3"
code_of (fault.Feed own) = file_faults.code_of_feed own
code_of (fault.Orders own) = file_faults.code_of_orders own
