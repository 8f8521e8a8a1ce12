-- The lines of an execution. This product's own rule.
use Rattle.std.specs.Prelude.{ℕ, ◌==◌, ◌++◌, flat_map, Bool, true, false, List, [], ◌∷◌, codes, Option, Some, None, if◌then◌else◌}
use Rattle.std.specs.Prelude.{suc}
use Rattle.std.specs.Fmt.{decimal}
use Rattle.nms_units.specs.Price.{price_text}
use Rattle.nms_quote.specs.Roster.{Listing, part_text}
use Rattle.nms_quote.specs.declared.side_quote.Side.{Side}
use Rattle.nms_board.specs.declared.row.Row.{Row}
use Rattle.nms_lines.specs.Sides.{side_word}
use Rattle.nms_lines.specs.Layout.{Record}
use Rattle.nms_trades.specs.FinePrice.{fine_text}
use Rattle.nms_trades.specs.Sums.{all_flicker, difference, is_helped}
use Rattle.nms_trades.specs.Causes.{applies, word_of}
use Rattle.nms_trades.specs.Counts.{flickers_at}
use Rattle.nms_trades.specs.Faults.{code_of, column_of}
use Rattle.nms_trades.specs.declared.cause.Cause.{Cause}
use Rattle.nms_trades.specs.declared.cause.Cause.TheVariants as cause
use Rattle.nms_trades.specs.declared.claims.Claims.{Claims}
use Rattle.nms_trades.specs.declared.execution.Execution.{Execution}
use Rattle.nms_trades.specs.declared.execution_file.Refusal.{Refusal}
use Rattle.nms_trades.specs.declared.finding.Finding.{Finding}
use Rattle.nms_trades.specs.declared.money_through.Sums.{Sums}
use Rattle.nms_trades.specs.declared.standing.Standing.{Standing}
use Rattle.nms_trades.specs.declared.standing.Standing.TheVariants as standing

-- a record that is refused: its number, the column and the code
abbrev pub refusal_record : Refusal → Record
refusal_record refusal = codes "REFUSED" ∷ decimal refusal.number ∷ decimal (column_of refusal.fault) ∷ code_of refusal.fault ∷ []

-- the word of a standing
abbrev pub standing_word : Standing → List ℕ
standing_word standing.Clean = codes "CLEAN"
standing_word standing.Unquoted = codes "NOQUOTE"
standing_word standing.Perhaps = codes "PERHAPS"
standing_word standing.Through = codes "THROUGH"
standing_word standing.Other = codes "OTHER"

-- an execution that traded through nothing
abbrev pub quiet_record : Standing → Execution → Record
quiet_record standing execution = standing_word standing ∷ execution.name.items ∷ decimal execution.version ∷ []

-- one that another shard judges
abbrev pub other_record : Execution → Record
other_record execution = codes "OTHER" ∷ execution.name.items ∷ []

-- whether a row is of the participant that executed
abbrev pub is_own : Option ℕ → ℕ → Bool
is_own None part = false
is_own (Some executed) part = executed == part

-- the marks of a row: whether it is of the participant that executed, and whether it flickered
abbrev pub marks_of : (own flickers : Bool) → List ℕ
marks_of false false = []
marks_of true false = codes "OWN"
marks_of false true = codes "FLICKER"
marks_of true true = codes "OWN+FLICKER"

-- what is quoted in a row
abbrev pub quotation_fields : Listing → Side → Row → List (List ℕ)
quotation_fields roster side row =
    side_word side ∷ part_text roster row.part ∷ price_text row.price ∷ decimal row.size ∷ decimal row.receipt ∷ []

-- a row that was traded through
abbrev pub row_record : Listing → Execution → Side → Row → Bool → Record
row_record roster execution side row flickers = codes "ROW" ∷ quotation_fields roster side row
    ++ fine_text (difference row execution.millionths) ∷ marks_of (is_own execution.part row.part) flickers ∷ []

-- that record, or none if self-help takes the row out
abbrev pub records_of_row : Listing → Execution → Side → Row → Bool → List Record
records_of_row roster execution side row flickers =
    if is_helped execution row then [] else row_record roster execution side row flickers ∷ []

-- the records of rows from a place on among those traded through
unfoldable pub row_records : Listing → Execution → Finding → (place : ℕ) → List (Side × Row) → List Record
row_records roster execution finding place [] = []
row_records roster execution finding place (passed ∷ rest) =
    records_of_row roster execution passed.0 passed.1 (flickers_at finding place)
    ++ row_records roster execution finding (suc place) rest

-- all causes, in the order in which they are written
abbrev pub all_causes : List Cause
all_causes = cause.SelfHelp ∷ cause.NotRegular ∷ cause.SinglePriced ∷ cause.Crossed ∷ cause.Sweep ∷ cause.Swept ∷ cause.Benchmark
    ∷ cause.Flicker ∷ cause.Stopped ∷ cause.Contingent ∷ cause.Exempt ∷ cause.OutsideHours ∷ cause.OutOfSequence ∷ []

-- the word of a cause after a plus, if it applies
abbrev pub plus_word : Claims → (crossed helped flickering : Bool) → Cause → List ℕ
plus_word claims crossed helped flickering cause = if applies cause claims crossed helped flickering then 43 ∷ word_of cause else []

-- the words of the causes that apply
abbrev pub plus_words : Claims → (crossed helped flickering : Bool) → List Cause → List ℕ
plus_words claims crossed helped flickering causes = flat_map (plus_word claims crossed helped flickering) causes

-- without the first plus; NONE if none applies
abbrev pub joined_or_none : List ℕ → List ℕ
joined_or_none [] = codes "NONE"
joined_or_none (plus ∷ words) = words

abbrev pub causes_text : Claims → (crossed helped flickering : Bool) → List ℕ
causes_text claims crossed helped flickering = joined_or_none (plus_words claims crossed helped flickering all_causes)

-- what a cause adds to those before it, of which there are some or none
abbrev pub next_word : (some applies : Bool) → Cause → List ℕ
next_word some applies cause = if applies then (if some then 43 ∷ word_of cause else word_of cause) else []

-- that it traded through, or on some versions of its window: how many rows are left, the greatest difference, the shares, and the
-- causes
abbrev pub through_record : Execution → Finding → Sums → Record
through_record execution finding sums = standing_word finding.standing ∷ execution.name.items ∷ decimal execution.version
    ∷ decimal sums.count ∷ fine_text sums.worst ∷ decimal sums.shares
    ∷ causes_text execution.claims finding.crossed sums.helped (all_flicker sums) ∷ []

-- that record, and those of its rows
abbrev pub through_records : Listing → Execution → Finding → Sums → List Record
through_records roster execution finding sums =
    through_record execution finding sums ∷ row_records roster execution finding 0 finding.passed.items
