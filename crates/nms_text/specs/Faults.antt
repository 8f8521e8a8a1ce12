-- The codes by which faults are reported, and the exit status of a program that one of them ends: 1 for streams and
-- files, 5 for memory, 6 for lines, plans and lengths. This product's own rule.
use Rattle.std.specs.Prelude.{ℕ, List, codes}
use Rattle.nms_text.specs.declared.text_fault.TextFault.{TextFault}
use Rattle.nms_text.specs.declared.text_fault.TextFault.TheVariants as text_fault
use Rattle.nms_text.specs.declared.script_fault.ScriptFault.{ScriptFault}
use Rattle.nms_text.specs.declared.script_fault.ScriptFault.TheVariants as script_fault

abbrev pub code_of_script : ScriptFault → List ℕ
code_of_script script_fault.ReadFault = codes "E1"
code_of_script script_fault.WriteFault = codes "E2"
code_of_script script_fault.TooLong = codes "E3"
code_of_script script_fault.NoMemory = codes "E4"

abbrev pub status_of_script : ScriptFault → ℕ
status_of_script script_fault.ReadFault = 1
status_of_script script_fault.WriteFault = 1
status_of_script script_fault.TooLong = 6
status_of_script script_fault.NoMemory = 5

abbrev pub code_of_text : TextFault → List ℕ
code_of_text text_fault.NoMemory = codes "L12"
code_of_text text_fault.WriteFault = codes "L13"

abbrev pub status_of_text : TextFault → ℕ
status_of_text text_fault.NoMemory = 5
status_of_text text_fault.WriteFault = 1
