-- The times that are refused. This product's own rule.
use Rattle.std.specs.Prelude.{ℕ, ◌≡◌, ◌+◌, List, Option, Some, None}
use Rattle.nms_times.specs.Times.{FallsAt}
use Rattle.nms_times.specs.TimesText.{IsFirstWrong}
use Rattle.nms_times.specs.declared.times_fault.TimesFault.{TimesFault}
use Rattle.nms_times.specs.declared.times_fault.TimesFault.TheVariants as fault

-- H1 names the first line that has no time, unless out of memory
abbrev pub IsReadFault : List ℕ → TimesFault → Type 0
IsReadFault text (fault.NotTime line) = IsFirstWrong text line
IsReadFault text (fault.TimesFall line) = ⊥
IsReadFault text fault.OtherLength = ⊥
IsReadFault text (fault.NotSymbol line) = ⊥
IsReadFault text fault.NoMemory = Unit {0}

-- H2 names the first line whose time is before that of the line above it, of the times of the changes after a version
abbrev pub IsFall : List ℕ → (before : ℕ) → TimesFault → Type 0
IsFall times before error = (place : ℕ) × FallsAt times place × (error ≡ fault.TimesFall (before + place + 1))

-- the line that a fault names, if it names one
abbrev pub line_of : TimesFault → Option ℕ
line_of (fault.NotTime line) = Some line
line_of (fault.TimesFall line) = Some line
line_of fault.OtherLength = None
line_of (fault.NotSymbol line) = Some line
line_of fault.NoMemory = None
