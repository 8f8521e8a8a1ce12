-- A file of changes: what a line of it says, the tape that its lines make, and the first line that is refused. This
-- product's own rule.
use Rattle.std.specs.Prelude.{ℕ, ◌≡◌, ◌≤◌, All, Bool, true, false, List, length, Option, Result, Ok, Err}
use Rattle.nms_quote.specs.Roster.{Listing, holds, sizes_of}
use Rattle.nms_quote.specs.Tape.{Tape}
use Rattle.nms_quote.specs.declared.change.Change.{Change}
use Rattle.nms_quote.specs.declared.TheConstants.{MOST_CHANGES}
use Rattle.nms_fees.specs.Settings.{Settings}
use Rattle.nms_lines.specs.ChangeReading.{change_reading}
use Rattle.nms_lines.specs.Layout.{Record}
use Rattle.nms_lines.specs.Records.{AreAllRecords}
use Rattle.nms_lines.specs.declared.line_fault.LineFault.{LineFault}
use Rattle.nms_files.specs.declared.changes_fault.ChangesFault.{ChangesFault}
use Rattle.nms_files.specs.declared.changes_fault.ChangesFault.TheVariants as fault
use Rattle.nms_files.specs.LineFile.{AreSaid, IsFirstRefused}

-- each line says the change of the tape at its place, and the tape is within its limit
pub record IsTapeOf (settings : Settings) (records : List Record) (tape : Tape) : Type 0 where
  pub said : AreSaid (change_reading settings.roster) records tape
  pub within : length tape ≤ settings.tape_limit

-- why a line is refused after n changes: its own fault, else that the tape has no room
abbrev pub IsRefusedAfter : Settings → ℕ → Result Change LineFault → ChangesFault → Type 0
IsRefusedAfter settings taken (Err own) refused = refused ≡ fault.Line own
IsRefusedAfter settings taken (Ok change) refused = (refused ≡ fault.TapeFull) × (settings.tape_limit ≤ taken)

-- why one more line is refused after a tape
abbrev pub IsRefusedBehind : Settings → Tape → Record → ChangesFault → Type 0
IsRefusedBehind settings tape line why = IsRefusedAfter settings (length tape) (change_reading settings.roster line) why

-- whether a fault is that of a line, and not of the source or of memory
abbrev pub is_of_line : ChangesFault → Bool
is_of_line (fault.Line own) = true
is_of_line fault.TapeFull = true
is_of_line (fault.Record own) = false

-- the tape of a file
abbrev pub IsFileTape : Settings → Option (List ℕ) → Tape → Type 0
IsFileTape settings bytes tape = (records : List Record) × AreAllRecords bytes records × IsTapeOf settings records tape

-- if a file is refused for a line, that is the first one that is refused
abbrev pub IsFileFault : Settings → Option (List ℕ) → ChangesFault → Type 0
IsFileFault settings bytes why =
    is_of_line why ≡ true → (records : List Record) × AreAllRecords bytes records
    × IsFirstRefused (IsTapeOf settings) (λ tape line. IsRefusedBehind settings tape line why) records

-- the changes of the lines so far: a tape, of the roster, and within what any tape holds
pub record AreChangesOf (settings : Settings) (records : List Record) (tape : Tape) : Type 0 where
  pub tape_of : IsTapeOf settings records tape
  pub held : All (λ change. holds (sizes_of settings.roster) change ≡ true) tape
  pub few : length tape ≤ MOST_CHANGES

-- why one more line is refused, as far as the line is the cause
abbrev pub IsLineFault : Settings → Tape → Record → ChangesFault → Type 0
IsLineFault settings tape line why = is_of_line why ≡ true → IsRefusedBehind settings tape line why
