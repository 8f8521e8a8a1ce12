-- The codes by which faults are reported, and the exit status of a program that one of them ends: that of the file's
-- fault, 1 for streams, 5 for memory. This product's own rule.
use Rattle.std.specs.Prelude.{ℕ, List, codes}
use Rattle.nms_files.specs.Faults as file_faults
use Rattle.nms_text.specs.Faults as text_faults
use Rattle.nms_file_answers.specs.declared.audit_fault.AuditFault.{AuditFault}
use Rattle.nms_file_answers.specs.declared.audit_fault.AuditFault.TheVariants as audit_fault
use Rattle.nms_file_answers.specs.declared.plan_fault.PlanFault.{PlanFault}
use Rattle.nms_file_answers.specs.declared.plan_fault.PlanFault.TheVariants as plan_fault
use Rattle.nms_file_answers.specs.declared.report_fault.ReportFault.{ReportFault}
use Rattle.nms_file_answers.specs.declared.report_fault.ReportFault.TheVariants as report_fault

abbrev pub code_of_report : ReportFault → List ℕ
code_of_report (report_fault.Changes fault) = file_faults.code_of_changes fault
code_of_report (report_fault.Board fault) = codes "B1"
code_of_report report_fault.WriteFault = codes "E2"
code_of_report report_fault.NoMemory = codes "E4"

abbrev pub status_of_report : ReportFault → ℕ
status_of_report (report_fault.Changes fault) = file_faults.status_of_changes fault
status_of_report (report_fault.Board fault) = 5
status_of_report report_fault.WriteFault = 1
status_of_report report_fault.NoMemory = 5

abbrev pub code_of_plan : PlanFault → List ℕ
code_of_plan (plan_fault.Changes fault) = file_faults.code_of_changes fault
code_of_plan (plan_fault.Board fault) = codes "B1"
code_of_plan (plan_fault.Text fault) = text_faults.code_of_text fault

abbrev pub status_of_plan : PlanFault → ℕ
status_of_plan (plan_fault.Changes fault) = file_faults.status_of_changes fault
status_of_plan (plan_fault.Board fault) = 5
status_of_plan (plan_fault.Text fault) = text_faults.status_of_text fault

abbrev pub code_of_audit : AuditFault → List ℕ
code_of_audit audit_fault.VersionBeyondTape = codes "A1"
code_of_audit (audit_fault.Doubt doubt) = codes "A2"
code_of_audit audit_fault.NoMemory = codes "A3"
