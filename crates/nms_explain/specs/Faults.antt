-- The codes of the faults that end a report early. This product's own rule.
use Rattle.std.specs.Prelude.{ℕ, List}
use Rattle.nms_codes.specs.Codes.{code_of_show, status_of_show}
use Rattle.nms_lines.specs.RecordFaults as record_faults
use Rattle.nms_explain.specs.declared.explain_fault.ExplainFault.{ExplainFault}
use Rattle.nms_explain.specs.declared.explain_fault.ExplainFault.TheVariants as fault

-- the code by which a fault is reported: that of the file, or that of the writer
abbrev pub code_of : ExplainFault → List ℕ
code_of (fault.Record own) = record_faults.code_of own
code_of (fault.Show own) = code_of_show own

-- the exit status of a program that it ends
abbrev pub status_of : ExplainFault → ℕ
status_of (fault.Record own) = record_faults.status_of own
status_of (fault.Show own) = status_of_show own
