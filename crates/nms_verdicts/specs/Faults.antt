-- The code that is printed of each fault of judging plans, and the exit status of a call that it ends: those of the fault
-- below. This product's own rule.
use Rattle.std.specs.Prelude.{ℕ, List, codes}
use Rattle.nms_lines.specs.PlanFaults as plan_faults
use Rattle.nms_files.specs.Faults.{code_of_changes, status_of_changes}
use Rattle.nms_codes.specs.Codes.{code_of_show, code_of_times, status_of_show, status_of_times}
use Rattle.nms_verdicts.specs.declared.verdict_fault.VerdictFault.{VerdictFault}
use Rattle.nms_verdicts.specs.declared.verdict_fault.VerdictFault.TheVariants as fault

abbrev pub code_of : VerdictFault → List ℕ
code_of (fault.Changes refused) = code_of_changes refused
code_of (fault.Times refused) = code_of_times refused
code_of (fault.Board refused) = codes "B1"
code_of (fault.Plan refused) = plan_faults.code_of refused
code_of (fault.Show refused) = code_of_show refused

abbrev pub status_of : VerdictFault → ℕ
status_of (fault.Changes refused) = status_of_changes refused
status_of (fault.Times refused) = status_of_times refused
status_of (fault.Board refused) = 5
status_of (fault.Plan refused) = plan_faults.status_of refused
status_of (fault.Show refused) = status_of_show refused
