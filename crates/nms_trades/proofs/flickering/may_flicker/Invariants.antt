-- `may_flicker`: no quotation of an execution so far can have flickered.
use Rattle.std.proofs.Common.{ℕ, ◌≡◌, ◌<◌, Some, slice_get}
use Rattle.nms_trades.specs.Found.{IsSteady}
use Rattle.nms_trades.specs.declared.execution.Execution.{Execution}
use Rattle.nms_trades.specs.declared.finding.Finding.{Finding}
use Rattle.nms_trades.proofs.flickering.may_flicker.Given as goal

abbrev pub invariant-loop-place : goal.invariant-loop-place
invariant-loop-place l =
    (place : ℕ) (execution : Execution) (finding : Finding) → place < l.place → slice_get l.executions place ≡ Some execution
    → slice_get l.findings place ≡ Some (Some finding) → IsSteady execution finding
