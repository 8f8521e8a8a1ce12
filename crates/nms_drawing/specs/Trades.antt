-- The rows of a day's page that come from its executions: each execution of a symbol that has a day on the page, with what is
-- found about it, and the quotations that it traded through. This product's own rule.
use Rattle.std.specs.Prelude.{ℕ, ◌+◌, ◌-◌, ◌*◌, ◌==◌, ◌&&◌, Bool, List, [], ◌∷◌, ◌++◌, map, nat_le, true, false, not, Option, Some, None}
use Rattle.std.specs.Prelude.{if◌then◌else◌}
use Rattle.nms_quote.specs.declared.side_quote.Side.{Side}
use Rattle.nms_quote.specs.declared.side_quote.Side.TheVariants.{Bid, Offer}
use Rattle.nms_board.specs.declared.row.Row.{Row}
use Rattle.nms_times.specs.Clock.{since_midnight}
use Rattle.nms_trades.specs.Causes.{applies}
use Rattle.nms_trades.specs.Counts.{flickers_at}
use Rattle.nms_trades.specs.Sums.{all_flicker, difference, is_helped, sums_found}
use Rattle.nms_trades.specs.declared.cause.Cause.{Cause}
use Rattle.nms_trades.specs.declared.cause.Cause.TheVariants as cause
use Rattle.nms_trades.specs.declared.execution.Deal.{Deal}
use Rattle.nms_trades.specs.declared.execution.Deal.TheVariants as deal
use Rattle.nms_trades.specs.declared.execution.Execution.{Execution}
use Rattle.nms_trades.specs.declared.finding.Finding.{Finding}
use Rattle.nms_trades.specs.declared.money_through.Sums.{Sums}
use Rattle.nms_trades.specs.declared.standing.Standing.{Standing}
use Rattle.nms_trades.specs.declared.standing.Standing.TheVariants as standing
use Rattle.nms_drawing.specs.Rows.{day_of, time_in}
use Rattle.nms_drawing.specs.declared.rows.Window.{Window}

-- an execution on the page, with what is found about it, and its day
pub record Shown : Type 0 where
  pub execution : Execution
  pub finding : Finding
  pub day : ℕ

-- the time of an execution: its own, or else that of its version
abbrev pub time_shown : Window → Execution → Option ℕ → ℕ
time_shown window execution None = time_in window execution.version
time_shown window execution (Some time) = since_midnight time

-- whether an execution at a version and a time is in the range that is shown
abbrev pub is_within : Window → (version time : ℕ) → Bool
is_within window version time = nat_le window.from version && nat_le version window.to && nat_le window.since time && nat_le time window.until

abbrev pub is_on_page : Window → Execution → Bool
is_on_page window execution = not execution.other && is_within window execution.version (time_shown window execution execution.time)

-- an execution with what is found about it, if it is judged here, is in the range, and its symbol has a day
abbrev pub shown_on : Window → Execution → Finding → Option ℕ → List Shown
shown_on window execution finding None = []
shown_on window execution finding (Some day) =
    if is_on_page window execution then record { execution = execution; finding = finding; day = day } ∷ [] else []

abbrev pub shown_if : Window → Execution → Option Finding → List Shown
shown_if window execution None = []
shown_if window execution (Some finding) = shown_on window execution finding (day_of window execution.sym)

-- the executions of a file that are on the page, in order
abbrev pub shown_of : Window → List Execution → List (Option Finding) → List Shown
shown_of window [] found = []
shown_of window (execution ∷ rest) [] = []
shown_of window (execution ∷ rest) (finding ∷ found) = shown_if window execution finding ++ shown_of window rest found

abbrev pub kind_of : Standing → ℕ
kind_of standing.Clean = 0
kind_of standing.Unquoted = 1
kind_of standing.Perhaps = 2
kind_of standing.Through = 3
kind_of standing.Other = 0

abbrev pub is_flagged : Standing → Bool
is_flagged standing.Clean = false
is_flagged standing.Unquoted = false
is_flagged standing.Perhaps = true
is_flagged standing.Through = true
is_flagged standing.Other = false

abbrev pub side_of : Option Deal → ℕ
side_of None = 0
side_of (Some deal.Bought) = 1
side_of (Some deal.Sold) = 2

-- a participant, if there is one
abbrev pub part_cell : Option ℕ → ℕ
part_cell None = 0
part_cell (Some part) = part + 1

abbrev pub counted : (applies : Bool) → (weight : ℕ) → ℕ
counted applies weight = if applies then weight else 0

abbrev pub is_cause : Cause → Execution → Finding → Sums → Bool
is_cause cause execution finding sums = applies cause execution.claims finding.crossed sums.helped (all_flicker sums)

-- the causes that apply, as a number: the first one counts 1, the next one 2, the third one 4, and so on
abbrev pub causes_number : Execution → Finding → Sums → ℕ
causes_number execution finding sums =
    counted (is_cause cause.SelfHelp execution finding sums) 1 + counted (is_cause cause.NotRegular execution finding sums) 2
    + counted (is_cause cause.SinglePriced execution finding sums) 4 + counted (is_cause cause.Crossed execution finding sums) 8
    + counted (is_cause cause.Sweep execution finding sums) 16 + counted (is_cause cause.Swept execution finding sums) 32
    + counted (is_cause cause.Benchmark execution finding sums) 64 + counted (is_cause cause.Flicker execution finding sums) 128
    + counted (is_cause cause.Stopped execution finding sums) 256 + counted (is_cause cause.Contingent execution finding sums) 512
    + counted (is_cause cause.Exempt execution finding sums) 1024 + counted (is_cause cause.OutsideHours execution finding sums) 2048
    + counted (is_cause cause.OutOfSequence execution finding sums) 4096

abbrev pub causes_shown : Execution → Finding → Sums → ℕ
causes_shown execution finding sums = if is_flagged finding.standing then causes_number execution finding sums else 0

abbrev pub execution_row : Window → Shown → List ℕ
execution_row window shown =
    let execution = shown.execution in
    let sums = sums_found execution shown.finding in
    shown.day ∷ time_shown window execution execution.time ∷ execution.version ∷ kind_of shown.finding.standing ∷ execution.millionths
    ∷ execution.shares ∷ side_of execution.deal ∷ part_cell execution.part ∷ execution.number ∷ sums.count ∷ sums.worst ∷ sums.shares
    ∷ causes_shown execution shown.finding sums ∷ []

abbrev pub execution_rows : Window → List Shown → List (List ℕ)
execution_rows window all = map (execution_row window) all

abbrev pub offer_cell : Side → ℕ
offer_cell Bid = 0
offer_cell Offer = 1

-- whether a quotation is of the participant where it was executed
abbrev pub own_cell : Option ℕ → Row → ℕ
own_cell None row = 0
own_cell (Some part) row = if part == row.part then 1 else 0

abbrev pub passed_cells : (n : ℕ) → Execution → Side × Row → (flickers : Bool) → List ℕ
passed_cells n execution passed flickers =
    n ∷ offer_cell passed.0 ∷ (passed.1.part + 1) ∷ passed.1.price ∷ passed.1.size ∷ (execution.version - passed.1.receipt)
    ∷ difference passed.1 execution.millionths ∷ own_cell execution.part passed.1 ∷ (if flickers then 1 else 0) ∷ []

-- a quotation that an execution traded through; n is the number of executions before it. One that self-help takes out is left out
abbrev pub passed_row : (n : ℕ) → Shown → (place : ℕ) → Side × Row → List (List ℕ)
passed_row n shown place passed =
    if is_helped shown.execution passed.1 then [] else passed_cells n shown.execution passed (flickers_at shown.finding place) ∷ []

abbrev pub passed_from : (n : ℕ) → Shown → (place : ℕ) → List (Side × Row) → List (List ℕ)
passed_from n shown place [] = []
passed_from n shown place (passed ∷ rest) = passed_row n shown place passed ++ passed_from n shown (place + 1) rest

abbrev pub passed_rows_from : (n : ℕ) → List Shown → List (List ℕ)
passed_rows_from n [] = []
passed_rows_from n (shown ∷ rest) = passed_from n shown 0 shown.finding.passed.items ++ passed_rows_from (n + 1) rest

abbrev pub passed_rows : List Shown → List (List ℕ)
passed_rows all = passed_rows_from 0 all

-- the ids of executions
abbrev pub ids_of : List Shown → List (List ℕ)
ids_of all = map (λ shown. shown.execution.name.items) all
