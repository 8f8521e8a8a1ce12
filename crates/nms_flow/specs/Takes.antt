-- Taking until a taking is refused. This product's own rule.
use Rattle.std.specs.Prelude.{◌≡◌, ◌++◌, ◌∷◌, All, true, List, [], Err}
use Rattle.nms_flow.specs.Flow.{State, IsAfter}
use Rattle.nms_flow.specs.Run.{Event, took}
use Rattle.nms_flow.specs.declared.step.Step.TheVariants as step
use Rattle.nms_flow.specs.declared.step_fault.StepFault.{StepFault}

-- the machine went on by some takes and by one that was refused
abbrev pub TakesUntil : StepFault → State → State → Type 0
TakesUntil fault old new = (before : List Event) → IsAfter old before
    → (takes : List Event) × All (λ event. took event ≡ true) takes × IsAfter new ((before ++ takes) ++ (step.Take, Err fault) ∷ [])
