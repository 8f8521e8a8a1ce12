-- All that is found about an execution: on the version in force, on those of its window, and on those of the second before it.
use Rattle.std.specs.Prelude.{ℕ, ◌≡◌, ◌==◌, ◌&&◌, ◌⊎◌, Bool, false, List, [], length, map, slice_get, Option, Some, None}
use Rattle.nms_quote.specs.Roster.{Sizes}
use Rattle.nms_quote.specs.Tape.{Tape}
use Rattle.nms_quote.specs.declared.side_quote.Side.{Side}
use Rattle.nms_board.specs.declared.row.Row.{Row}
use Rattle.nms_trades.specs.Around.{flickers, goes_through_at, standing_over}
use Rattle.nms_trades.specs.Bests.{best_at}
use Rattle.nms_trades.specs.Judged.{IsFound}
use Rattle.nms_trades.specs.Quoted.{answered_as, is_unquoted}
use Rattle.nms_trades.specs.Track.{HasTrack}
use Rattle.nms_trades.specs.declared.execution.Execution.{Execution}
use Rattle.nms_trades.specs.declared.finding.Finding.{Finding}
use Rattle.nms_trades.specs.declared.standing.Standing.{Standing}
use Rattle.nms_trades.specs.declared.track.Track.{Track}

-- the standing of an execution on the versions of its window
abbrev pub standing_in : Sizes → Tape → Execution → Standing
standing_in sizes tape execution =
    standing_over (goes_through_at sizes tape execution.sym execution.millionths) execution.first execution.last

-- its answer: a clean one was quoted on each version of its window, which it was if it was on the first; and another shard's is no finding
abbrev pub answer_in : Sizes → Tape → Execution → Standing
answer_in sizes tape execution =
    answered_as execution.other (is_unquoted tape execution.sym execution.first) (standing_in sizes tape execution)

-- whether a quotation that was traded through flickered: in some version from that in force one second before to its own
abbrev pub has_flickered : Sizes → Tape → Execution → Side × Row → Bool
has_flickered sizes tape execution passed =
    flickers sizes tape execution.sym execution.millionths execution.second_before execution.version passed.0 passed.1.part

-- the same for each; for none if the time of the execution is not known
abbrev pub if_timed : Option ℕ → List Bool → List Bool
if_timed None marks = []
if_timed (Some time) marks = marks

abbrev pub flickers_of : Sizes → Tape → Execution → List (Side × Row) → List Bool
flickers_of sizes tape execution passed = if_timed execution.time (map (has_flickered sizes tape execution) passed)

-- all that is found
pub record IsJudged (sizes : Sizes) (tape : Tape) (execution : Execution) (finding : Finding) : Type 0 where
  pub own : IsFound sizes tape execution finding
  pub standing : finding.standing ≡ answer_in sizes tape execution
  pub flickers : finding.flickers.items ≡ flickers_of sizes tape execution finding.passed.items

-- the same except for flickering quotations, which were not looked for
pub record IsStanding (sizes : Sizes) (tape : Tape) (execution : Execution) (finding : Finding) : Type 0 where
  pub own : IsFound sizes tape execution finding
  pub standing : finding.standing ≡ answer_in sizes tape execution
  pub flickers : finding.flickers.items ≡ []

-- the same before it is asked whether the symbol was quoted, and whether another shard judges it
pub record IsWeighed (sizes : Sizes) (tape : Tape) (execution : Execution) (finding : Finding) : Type 0 where
  pub own : IsFound sizes tape execution finding
  pub standing : finding.standing ≡ standing_in sizes tape execution
  pub flickers : finding.flickers.items ≡ []

-- whether its version is the only one of its window
abbrev pub is_alone : Execution → Bool
is_alone execution = execution.first == execution.version && execution.last == execution.version

-- the best prices of the symbol are known for an execution whose window has several versions
abbrev pub IsReady : Sizes → Tape → List Track → Execution → Type 0
IsReady sizes tape bests execution =
    is_alone execution ≡ false → HasTrack (best_at sizes tape execution.sym) (length tape) (slice_get bests execution.sym)

-- no quotation of an execution can have flickered: its time is not known, or it traded through none
abbrev pub IsSteady : Execution → Finding → Type 0
IsSteady execution finding = (execution.time ≡ None) ⊎ (finding.passed.items ≡ [])
