-- What is shown of the rows that make no change. This product's own rule.
use Rattle.std.specs.Prelude.{ℕ, ◌-◌, List, if◌then◌else◌}
use Rattle.nms_show.specs.Endings.{is_json}
use Rattle.nms_import.specs.declared.cause.Cause.{Cause}
use Rattle.nms_import.specs.declared.cause.Cause.TheVariants as cause
use Rattle.nms_import.specs.declared.TheConstants.{MOST_TOLD}
use Rattle.nms_import.specs.declared.tally.TheConstants.{MOST_ROWS}
use Rattle.nms_import.specs.declared.telling.Telling.{Telling}
use Rattle.nms_import.specs.declared.telling.Told.{Told}

-- the file whose rows are shown
abbrev pub file_of : {E : Type 0} → Told E → List ℕ
file_of told = told.file.now

-- how many rows more are shown
abbrev pub left_of : {E : Type 0} → Told E → ℕ
left_of told = told.left

-- how many are shown: as JSON any number that an import has, else the first 100
abbrev pub most_of : Telling → ℕ
most_of telling = if is_json telling.form then MOST_ROWS else MOST_TOLD

-- how many are left after a row; the last line of a file is not shown
abbrev pub left_after : Cause → ℕ → ℕ
left_after cause.TooFewColumns left = left - 1
left_after cause.BadTime left = left - 1
left_after cause.UnknownParticipant left = left - 1
left_after cause.UnknownSymbol left = left - 1
left_after cause.UnknownCondition left = left - 1
left_after (cause.OneSided side) left = left - 1
left_after cause.UnknownSide left = left - 1
left_after (cause.BadPrice side) left = left - 1
left_after (cause.BadSize side) left = left - 1
left_after (cause.HalfSide side) left = left - 1
left_after cause.Trailer left = left
left_after cause.Listed left = left - 1
left_after cause.OtherSymbol left = left - 1
