-- The faults that all files and streams share: their codes, and the exit status of a program that one ends. The status
-- is 1 for the source, 5 for memory, 6 for a record. This product's own rule.
use Rattle.std.specs.Prelude.{ℕ, List, codes}
use Rattle.nms_lines.specs.declared.record_fault.RecordFault.{RecordFault}
use Rattle.nms_lines.specs.declared.record_fault.RecordFault.TheVariants as fault

abbrev pub code_of : RecordFault → List ℕ
code_of fault.Failed = codes "E1"
code_of fault.NoMemory = codes "E4"

abbrev pub status_of : RecordFault → ℕ
status_of fault.Failed = 1
status_of fault.NoMemory = 5

-- the exit status when a record is refused
abbrev pub refused_status : ℕ
refused_status = 6
