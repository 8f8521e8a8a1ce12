-- The picture of a symbol's day: which versions of a tape are drawn, and why there is none. This product's own rule.
use Rattle.std.specs.Prelude.{ℕ, ⊤, ◌≡◌, ◌≤◌, ◌⊎◌, Bool, List, Option, Some, None, IfSome, IsSome, length, unwrap_or, if◌then◌else◌}
use Rattle.std.specs.List.Sorted.{IsNonDecreasing}
use Rattle.nms_quote.specs.Roster.{Listing}
use Rattle.nms_quote.specs.Tape.{Tape}
use Rattle.nms_fees.specs.Settings.{Settings}
use Rattle.nms_files.specs.ChangeFile.{IsFileFault, IsFileTape}
use Rattle.nms_lines.specs.Layout.{Record}
use Rattle.nms_lines.specs.PlanReading.{plan_in}
use Rattle.nms_lines.specs.Records.{AreAllRecords}
use Rattle.nms_lines.specs.declared.plan_text_fault.PlanTextFault.{PlanTextFault}
use Rattle.nms_lines.specs.declared.plan_text_fault.PlanTextFault.TheVariants as plan_fault
use Rattle.nms_times.specs.Faults.{IsFall}
use Rattle.nms_times.specs.Times.{between}
use Rattle.nms_times.specs.declared.times_fault.TimesFault.{TimesFault}
use Rattle.nms_drawing.specs.Versions.{AreOtherTimes}
use Rattle.nms_drawing.specs.declared.drawing_fault.DrawingFault.{DrawingFault}
use Rattle.nms_drawing.specs.declared.drawing_fault.DrawingFault.TheVariants as fault

-- the last version that is drawn: the one that is asked for, else that of the complete tape
abbrev pub last_drawn : Option ℕ → Tape → ℕ
last_drawn to tape = unwrap_or to (length tape)

-- the versions that are asked for are some of the tape's
pub record AreVersions (from : ℕ) (to : Option ℕ) (tape : Tape) : Type 0 where
  pub order : from ≤ last_drawn to tape
  pub within : last_drawn to tape ≤ length tape

-- the times by which versions are placed: none if the axis counts the symbol's own changes
abbrev pub placing : (own : Bool) → Option (List ℕ) → Option (List ℕ)
placing own times = if own then None else times

-- the number of times is that of the changes, and they do not fall between two versions
pub record AreTimes (from last : ℕ) (tape : Tape) (all : List ℕ) : Type 0 where
  pub many : length all ≡ length tape
  pub rise : IsNonDecreasing (between all from last)

-- the versions and the times that are asked for are those of a tape
pub record Fits (from : ℕ) (to : Option ℕ) (own : Bool) (times : Option (List ℕ)) (tape : Tape) : Type 0 where
  pub versions : AreVersions from to tape
  pub timed : IfSome (placing own times) (AreTimes from (last_drawn to tape) tape)

-- why times are refused: their number is not that of the changes, or the first that falls
abbrev pub AreWrongTimes : (from last : ℕ) → Option (List ℕ) → Tape → TimesFault → Type 0
AreWrongTimes from last times tape refused = AreOtherTimes times tape refused
    ⊎ ((all : List ℕ) × (times ≡ Some all) × (length all ≡ length tape) × IsFall (between all from last) from refused)

-- a text is that of a plan
abbrev pub IsPlanText : Listing → List ℕ → Type 0
IsPlanText roster text = (records : List Record) → AreAllRecords (Some text) records → IsSome (plan_in roster records)

-- why the text of a plan is refused: it is not one, or out of memory
abbrev pub IsPlanFault : Listing → Option (List ℕ) → PlanTextFault → Type 0
IsPlanFault roster None refused = ⊥
IsPlanFault roster (Some text) plan_fault.BadPlanText =
    (records : List Record) → AreAllRecords (Some text) records → plan_in roster records ≡ None
IsPlanFault roster (Some text) plan_fault.NoMemory = ⊤
IsPlanFault roster (Some text) plan_fault.WriteFault = ⊥

-- why a day is not drawn, as far as its versions, its times and the plan are the cause
abbrev pub IsDayFault : Listing → Tape → (from : ℕ) → (to : Option ℕ) → (own : Bool) → (times plan : Option (List ℕ))
    → DrawingFault → Type 0
IsDayFault roster tape from to own times plan (fault.Changes refused) = ⊥
IsDayFault roster tape from to own times plan (fault.Board refused) = ⊤
IsDayFault roster tape from to own times plan fault.VersionBeyondTape = AreVersions from to tape → ⊥
IsDayFault roster tape from to own times plan (fault.Plan refused) = IsPlanFault roster plan refused
IsDayFault roster tape from to own times plan (fault.Times refused) =
    AreVersions from to tape × AreWrongTimes from (last_drawn to tape) (placing own times) tape refused
IsDayFault roster tape from to own times plan fault.WriteFault = ⊤
IsDayFault roster tape from to own times plan fault.NoMemory = ⊤

-- a day was drawn of a file of changes: its versions and times fit the file's tape
pub record FitsFile (settings : Settings) (bytes : Option (List ℕ)) (from : ℕ) (to : Option ℕ) (own : Bool) (times : Option (List ℕ))
    : Type 0 where
  pub tape : Tape
  pub file : IsFileTape settings bytes tape
  pub fits : Fits from to own times tape

-- why a day is not drawn of a file of changes: the file is refused, or its tape's day is not drawn
abbrev pub IsFileDayFault : Settings → (bytes : Option (List ℕ)) → (from : ℕ) → (to : Option ℕ) → (own : Bool)
    → (times plan : Option (List ℕ)) → DrawingFault → Type 0
IsFileDayFault settings bytes from to own times plan (fault.Changes refused) = IsFileFault settings bytes refused
IsFileDayFault settings bytes from to own times plan other =
    (tape : Tape) × IsFileTape settings bytes tape × IsDayFault settings.roster tape from to own times plan other
