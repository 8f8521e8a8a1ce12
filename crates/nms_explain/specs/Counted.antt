-- The records of a file, counted: how many there are, how many are refused, whether one publishes; and how a report on the
-- file ends. This product's own rule.
use Rattle.std.specs.Prelude.{ℕ, ◌≡◌, ◌≤◌, ◌==◌, List, All, Bool, true, false, Option, Result, Ok, Err, length, if◌then◌else◌}
use Rattle.std.specs.List.{count_by, list_any}
use Rattle.nms_lines.specs.Layout.{Record}
use Rattle.nms_lines.specs.Records.{AreAllRecords}
use Rattle.nms_lines.specs.declared.line.Line.{Line}
use Rattle.nms_lines.specs.declared.line.Line.TheVariants as line
use Rattle.nms_lines.specs.declared.line_fault.LineFault.{LineFault}
use Rattle.nms_show.specs.declared.ending.Ending.{Ending}
use Rattle.nms_show.specs.declared.ending.Ending.TheVariants as ending
use Rattle.nms_explain.specs.declared.tally.Tally.{Tally}

-- whether what a record says is a fault
abbrev pub is_fault : {X : Type 0} → Result X LineFault → Bool
is_fault (Ok said) = false
is_fault (Err fault) = true

-- whether a reading refuses a record
abbrev pub is_refused : {X : Type 0} → (Record → Result X LineFault) → Record → Bool
is_refused reading fields = is_fault (reading fields)

-- done if none are refused
abbrev pub ending_by : ℕ → Ending
ending_by refused = if refused == 0 then ending.Done else ending.Refused

-- by the number of the records that a reading refuses
abbrev pub ending_of : {X : Type 0} → (Record → Result X LineFault) → List Record → Ending
ending_of reading records = ending_by (count_by (is_refused reading) records)

-- so a report on a file ends
abbrev pub EndsBy : {X : Type 0} → (Record → Result X LineFault) → Option (List ℕ) → Ending → Type 0
EndsBy reading bytes ended = (records : List Record) × AreAllRecords bytes records × (ended ≡ ending_of reading records)

-- whether a line publishes
abbrev pub publishes : Line → Bool
publishes line.TakeAll = true
publishes line.Publish = true
publishes (line.Change change) = false
publishes line.TakeOne = false
publishes (line.Tell desk) = false
publishes (line.Best desk sym) = false
publishes (line.Through desk sym price) = false
publishes (line.Sweep desk order) = false

-- whether what a record says publishes
abbrev pub is_publishing : Result Line LineFault → Bool
is_publishing (Ok said) = publishes said
is_publishing (Err fault) = false

-- the counts of these records
pub record IsTallyOf (reading : Record → Result Line LineFault) (seen : List Record) (tally : Tally) : Type 0 where
  pub records : tally.records ≡ length seen
  pub refused : tally.refused ≡ count_by (is_refused reading) seen
  pub publishes : tally.publishes ≡ list_any (λ fields. is_publishing (reading fields)) seen

-- the counts of the records of a file
abbrev pub IsFileTally : (Record → Result Line LineFault) → Option (List ℕ) → Tally → Type 0
IsFileTally reading bytes tally = (records : List Record) × AreAllRecords bytes records × IsTallyOf reading records tally

-- no more records were refused than there are, and none of the faults came more often
pub record IsWithin (tally : Tally) : Type 0 where
  pub refused : tally.refused ≤ tally.records
  pub by_fault : All (λ count. count ≤ tally.records) tally.by_fault
