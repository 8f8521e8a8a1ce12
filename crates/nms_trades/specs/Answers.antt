-- What is written of a file of executions: an answer to each record, in the order of the records. This product's own rule.
use Rattle.std.specs.Prelude.{ℕ, suc, ◌≡◌, ◌≤◌, ◌+◌, ◌++◌, All, Bool, true, false, List, [], ◌∷◌, drop, length, map, nat_lt, slice_get}
use Rattle.std.specs.Prelude.{take}
use Rattle.std.specs.Prelude.{unwrap_or, Option, Some, None}
use Rattle.std.specs.List.{flat_map, prefix_len, range_with_len}
use Rattle.nms_quote.specs.Roster.{Listing}
use Rattle.nms_lines.specs.Layout.{Record}
use Rattle.nms_lines.specs.Text.{text_of}
use Rattle.nms_show.specs.declared.show_fault.ShowFault.{ShowFault}
use Rattle.nms_trades.specs.Columns.{finding_row, names_text, refusal_row}
use Rattle.nms_trades.specs.Lines.{other_record, quiet_record, refusal_record, through_records}
use Rattle.nms_trades.specs.Sums.{sums_found}
use Rattle.nms_trades.specs.declared.execution.Execution.{Execution}
use Rattle.nms_trades.specs.declared.execution_file.Refusal.{Refusal}
use Rattle.nms_trades.specs.declared.finding.Finding.{Finding}
use Rattle.nms_trades.specs.declared.shape.Shape.{Shape}
use Rattle.nms_trades.specs.declared.shape.Shape.TheVariants as shape
use Rattle.nms_trades.specs.declared.standing.Standing.{Standing}
use Rattle.nms_trades.specs.declared.standing.Standing.TheVariants as standing
use Rattle.nms_trades.specs.declared.trades_fault.TradesFault.{TradesFault}
use Rattle.nms_trades.specs.declared.trades_fault.TradesFault.TheVariants as fault

-- an answer to a record: that it is refused, or an execution with what is found about it
pub data Answer : Type 0 where
  Refused : Refusal → Answer
  Judged : Execution → Option Finding → Answer

-- the number of the record that is answered
abbrev pub number_of : Answer → ℕ
number_of (Refused refusal) = refusal.number
number_of (Judged execution found) = execution.number

-- whether a refused record is before a record of a number; each is if there is none
abbrev pub is_before : Option ℕ → Refusal → Bool
is_before None refusal = true
is_before (Some number) refusal = nat_lt refusal.number number

-- how many of them are before it, from the first one
abbrev pub count_before : Option ℕ → List Refusal → ℕ
count_before number refused = prefix_len (is_before number) refused

-- the record that is written about one of them. Nothing is promised about objects
abbrev pub refusal_in : Shape → Refusal → Record
refusal_in shape.Lines refusal = refusal_record refusal
refusal_in shape.Columns refusal = refusal_row refusal
refusal_in shape.Objects refusal = []

-- what is written of those that do
abbrev pub refused_text : Shape → Option ℕ → List Refusal → List ℕ
refused_text shape number refused = text_of (map (refusal_in shape) (take (count_before number refused) refused))

-- those that are after it
abbrev pub refused_left : Option ℕ → List Refusal → List Refusal
refused_left number refused = drop (count_before number refused) refused

-- what is found about the execution at a place
abbrev pub found_at : List (Option Finding) → (place : ℕ) → Option Finding
found_at found place = unwrap_or (slice_get found place) None

-- the answers to executions from a place on and to refused records, in the order of the records: before an execution come the
-- refused records of lower numbers
unfoldable pub in_order : List (Option Finding) → (place : ℕ) → List Execution → List Refusal → List Answer
in_order found place [] refused = map Refused refused
in_order found place (execution ∷ rest) refused =
    map Refused (take (count_before (Some execution.number) refused) refused)
    ++ Judged execution (found_at found place) ∷ in_order found (suc place) rest (refused_left (Some execution.number) refused)

-- the records of an execution that traded through, those of one that did not, or those of one that is not judged here
abbrev pub by_standing : Standing → (quiet through other : List Record) → List Record
by_standing standing.Clean quiet through other = quiet
by_standing standing.Unquoted quiet through other = quiet
by_standing standing.Perhaps quiet through other = through
by_standing standing.Through quiet through other = through
by_standing standing.Other quiet through other = other

-- the lines of an execution
abbrev pub found_records : Listing → Execution → Finding → List Record
found_records roster execution finding =
    by_standing finding.standing (quiet_record finding.standing execution ∷ [])
    (through_records roster execution finding (sums_found execution finding)) (other_record execution ∷ [])

-- what is written of an execution
abbrev pub found_in : Shape → Listing → Execution → Finding → List Record
found_in shape.Lines roster execution finding = found_records roster execution finding
found_in shape.Columns roster execution finding = finding_row roster execution finding ∷ []
found_in shape.Objects roster execution finding = []

-- what is written of an answer
abbrev pub answer_records : Shape → Listing → Answer → List Record
answer_records shape roster (Refused refusal) = refusal_in shape refusal ∷ []
answer_records shape roster (Judged execution None) = []
answer_records shape roster (Judged execution (Some finding)) = found_in shape roster execution finding

-- what is written of some answers
abbrev pub text_of_answers : Shape → Listing → List Answer → List ℕ
text_of_answers shape roster answers = text_of (flat_map (answer_records shape roster) answers)

-- the answers to all records of a file
abbrev pub answers_in : Shape → Listing → List Execution → List Refusal → List (Option Finding) → List ℕ
answers_in shape roster executions refused found = text_of_answers shape roster (in_order found 0 executions refused)

-- as lines
abbrev pub answers_text : Listing → List Execution → List Refusal → List (Option Finding) → List ℕ
answers_text roster executions refused found = answers_in shape.Lines roster executions refused found

-- as columns, under their names
abbrev pub columns_text : Listing → List Execution → List Refusal → List (Option Finding) → List ℕ
columns_text roster executions refused found =
    names_text ++ answers_in shape.Columns roster executions refused found

-- the records up to a number are executions or refused, and their answers are in the order of the records, one for each
pub record AreNumbered (last : ℕ) (executions : List Execution) (refused : List Refusal) : Type 0 where
  pub count : length executions + length refused ≡ last
  pub executions_within : All (λ execution. execution.number ≤ last) executions
  pub refused_within : All (λ refusal. refusal.number ≤ last) refused
  pub order : (found : List (Option Finding)) → map number_of (in_order found 0 executions refused) ≡ range_with_len 1 last

-- whether answers are records of text
abbrev pub is_text : Shape → Bool
is_text shape.Lines = true
is_text shape.Columns = true
is_text shape.Objects = false

-- the output could not be written, or out of memory
abbrev pub IsShowFault : TradesFault → Type 0
IsShowFault why = (shown : ShowFault) × (why ≡ fault.Show shown)
