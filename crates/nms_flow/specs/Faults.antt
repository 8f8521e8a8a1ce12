-- The codes of the faults of steps. This product's own rule.
use Rattle.std.specs.Prelude.{ℕ, List, codes}
use Rattle.nms_flow.specs.declared.step_fault.StepFault.{StepFault}
use Rattle.nms_flow.specs.declared.step_fault.StepFault.TheVariants as fault

-- the code by which a fault is reported
abbrev pub code_of : StepFault → List ℕ
code_of fault.QueueFull = codes "F2"
code_of fault.QueueEmpty = codes "F3"
code_of fault.TapeFull = codes "F4"
code_of fault.NoMemory = codes "F5"
