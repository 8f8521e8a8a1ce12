-- `are_alone`: those so far are.
use Rattle.std.proofs.Common.{◌≡◌, true, All, take}
use Rattle.nms_trades.specs.Found.{is_alone}
use Rattle.nms_trades.specs.declared.execution.Execution.{Execution}
use Rattle.nms_trades.proofs.window.are_alone.Given as goal

abbrev pub invariant-loop-execution : goal.invariant-loop-execution
invariant-loop-execution l = All (λ (execution : Execution). is_alone execution ≡ true) (take l.execution-index l.executions)
