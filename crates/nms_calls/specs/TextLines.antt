-- Many records as one text, up to the first that is refused. This product's own rule.
use Rattle.std.specs.Prelude.{◌≡◌, ◌+◌, ◌==◌, ◌++◌, ◌∷◌, [], fold, ℕ, length, List, min, Option, Some, None, sum_by, take}
use Rattle.std.specs.List.{slice_split}
use Rattle.std.specs.Str.Lines.{lines}
use Rattle.nms_calls.specs.Opened.{Opened, Progress, from_start, room_fault, tried, version}
use Rattle.nms_calls.specs.RecordSaid.{HasAppliedRecord, record_fault, record_said}
use Rattle.nms_calls.specs.declared.call_fault.CallFault.{CallFault}

-- ---- the lines of a text

-- the records of a text: its lines without their ends. A line ends with a line feed, which the last one may lack; a carriage
-- return before the line feed belongs to that end. If nothing follows the last line feed, that is no line
abbrev pub records_in : List ℕ → List (List ℕ)
records_in text = lines text

-- the byte where the line after the first n begins, or the text's length: each of the n has its bytes and a line feed, which
-- the text's last line may lack
abbrev pub line_start : List ℕ → ℕ → ℕ
line_start text n = min (length text) (sum_by (λ line. length line + 1) (take n (slice_split (λ byte. byte == 10) text)))

-- ---- their changes in order

-- why a record is refused after some that are applied
abbrev pub later_record_fault : Opened → ℕ → List ℕ → Option CallFault
later_record_fault opened applied text = room_fault (version opened + applied) (record_said opened.settings.roster text)

-- one record more, and nothing after a refusal
abbrev pub record_next_from : Opened → Progress → List ℕ → Option CallFault → Progress
record_next_from opened p text None = tried p.applied (later_record_fault opened p.applied text)
record_next_from opened p text (Some found) = p

abbrev pub record_next : Opened → Progress → List ℕ → Progress
record_next opened p text = record_next_from opened p text p.fault

-- records in order, up to the first that is refused
abbrev pub all_records : Opened → List (List ℕ) → Progress
all_records opened records = fold (record_next opened) from_start records

-- the change that a record says was one to apply, and was applied
pub record IsAppliedRecord (text : List ℕ) (old new : Opened) : Type 0 where
  pub accepted : record_fault old text ≡ None
  pub applied : HasAppliedRecord text old new

-- the changes that records say were applied one after another
pub data AreAppliedRecords (start : Opened) : List (List ℕ) → Opened → Type 0 where
  nothing : AreAppliedRecords start [] start
  one_more : (records : List (List ℕ)) (text : List ℕ) (old new : Opened) → AreAppliedRecords start records old
      → IsAppliedRecord text old new → AreAppliedRecords start (records ++ text ∷ []) new
