-- The codes of the faults of a plan's text, and the exit status of a program that one ends. This product's own rule.
use Rattle.std.specs.Prelude.{ℕ, List, codes}
use Rattle.nms_lines.specs.declared.plan_text_fault.PlanTextFault.{PlanTextFault}
use Rattle.nms_lines.specs.declared.plan_text_fault.PlanTextFault.TheVariants as fault

-- the code that messages name it by
abbrev pub code_of : PlanTextFault → List ℕ
code_of fault.BadPlanText = codes "L11"
code_of fault.NoMemory = codes "L12"
code_of fault.WriteFault = codes "L13"

-- the exit status of a program that it ends: 6 for the text of a plan, 5 for memory, 1 for the writer
abbrev pub status_of : PlanTextFault → ℕ
status_of fault.BadPlanText = 6
status_of fault.NoMemory = 5
status_of fault.WriteFault = 1
