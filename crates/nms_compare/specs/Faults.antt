-- The code of each fault of a comparison, and the faults of its output. This product's own rule.
use Rattle.std.specs.Prelude.{Bool, true, false}
use Rattle.nms_codes.specs.declared.code.Code.{Code}
use Rattle.nms_codes.specs.declared.code.Code.TheVariants as code
use Rattle.nms_compare.specs.declared.compare_fault.CompareFault.{CompareFault}
use Rattle.nms_compare.specs.declared.compare_fault.CompareFault.TheVariants as fault

abbrev pub code_of : CompareFault → Code
code_of fault.ReadFault = code.E1
code_of fault.WriteFault = code.E2
code_of fault.TooLong = code.E3Rows
code_of fault.NoMemory = code.E4
code_of fault.Board = code.B1
code_of fault.NotTheTimes = code.J1
code_of fault.ChangesFall = code.J2
code_of fault.RowsFall = code.J3

-- the output could not be written, or out of memory for it
abbrev pub is_of_output : CompareFault → Bool
is_of_output fault.ReadFault = false
is_of_output fault.WriteFault = true
is_of_output fault.TooLong = false
is_of_output fault.NoMemory = true
is_of_output fault.Board = false
is_of_output fault.NotTheTimes = false
is_of_output fault.ChangesFall = false
is_of_output fault.RowsFall = false
