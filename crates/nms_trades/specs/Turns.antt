-- The turns in which executions are judged: each of them has one. This product's own rule.
use Rattle.std.specs.Prelude.{ℕ, ◌≡◌, ◌<◌, Contains, List, Option, Some, None, slice_get}
use Rattle.nms_trades.specs.declared.execution.Execution.{Execution}
use Rattle.nms_trades.specs.declared.finding.Finding.{Finding}
use Rattle.nms_trades.specs.declared.order.Turn.{Turn}

-- each place below a count has a turn
abbrev pub HaveTurns : List Turn → ℕ → Type 0
HaveTurns turns count = (place : ℕ) → place < count → (turn : Turn) × Contains turns turn × (turn.place ≡ place)

-- an execution has its own finding, of which something holds
abbrev pub IsAnswered : (Execution → Finding → Type 0) → Execution → Option (Option Finding) → Type 0
IsAnswered Holds execution (Some (Some finding)) = Holds execution finding
IsAnswered Holds execution (Some None) = ⊥
IsAnswered Holds execution None = ⊥

-- the executions of these turns have their own findings
abbrev pub AreAnsweredIn : (Execution → Finding → Type 0) → List Execution → List (Option Finding) → List Turn → Type 0
AreAnsweredIn Holds executions answers turns =
    (turn : Turn) → Contains turns turn → (execution : Execution) → slice_get executions turn.place ≡ Some execution
    → IsAnswered Holds execution (slice_get answers turn.place)

-- each execution has its own finding, at its own place
abbrev pub AreAnswered : (Execution → Finding → Type 0) → List Execution → List (Option Finding) → Type 0
AreAnswered Holds executions answers =
    (place : ℕ) (execution : Execution) → slice_get executions place ≡ Some execution → IsAnswered Holds execution (slice_get answers place)

-- the first of them have
abbrev pub AreAnsweredBelow : (Execution → Finding → Type 0) → (count : ℕ) → List Execution → List (Option Finding) → Type 0
AreAnsweredBelow Holds count executions answers =
    (place : ℕ) (execution : Execution) → place < count → slice_get executions place ≡ Some execution
    → IsAnswered Holds execution (slice_get answers place)
