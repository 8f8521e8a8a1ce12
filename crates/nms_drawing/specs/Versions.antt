-- A version of a file of changes: the board after the first n changes, what is shown of it, its opening changes, and why
-- there is none. This product's own rule.
use Rattle.std.specs.Prelude.{ℕ, ⊤, ◌≡◌, ◌≢◌, ◌<◌, ◌≤◌, Bool, true, false, List, Option, Some, None, IfSome, fold, length}
use Rattle.std.specs.Io.KnownBytes.{Appends}
use Rattle.nms_quote.specs.Roster.{Listing, Sizes, sizes_of}
use Rattle.nms_quote.specs.Tape.{Tape, version}
use Rattle.nms_quote.specs.declared.change.Change.{Change}
use Rattle.nms_board.specs.Cells.{Board, StandsFor, after, opening}
use Rattle.nms_board.specs.View.{Seen, view_of}
use Rattle.nms_change_text.specs.ChangeText.{changes_text}
use Rattle.nms_fees.specs.Settings.{Settings}
use Rattle.nms_files.specs.ChangeFile.{IsFileFault, IsFileTape}
use Rattle.nms_opening.specs.Opening.{Opens}
use Rattle.nms_show.specs.declared.form.Form.{Form}
use Rattle.nms_show.specs.declared.form.Form.TheVariants as form
use Rattle.nms_text.specs.Report.{IsReport}
use Rattle.nms_times.specs.declared.times_fault.TimesFault.{TimesFault}
use Rattle.nms_times.specs.declared.times_fault.TimesFault.TheVariants as times_fault
use Rattle.nms_drawing.specs.declared.drawing_fault.DrawingFault.{DrawingFault}
use Rattle.nms_drawing.specs.declared.drawing_fault.DrawingFault.TheVariants as fault

-- a new board of a roster after the changes of a tape
abbrev pub board_of : Sizes → Tape → Board
board_of sizes tape = fold after (opening sizes) tape

-- a file has the changes of a tape, of which a version has a prefix; and the same number of times, if there are any
pub record HasVersion (settings : Settings) (bytes times : Option (List ℕ)) (n : ℕ) (tape : Tape) : Type 0 where
  pub file : IsFileTape settings bytes tape
  pub timed : IfSome times (λ all. length all ≡ length tape)
  pub within : n ≤ length tape

-- there are times, and their number is not that of the changes
abbrev pub AreOtherTimes : Option (List ℕ) → Tape → TimesFault → Type 0
AreOtherTimes times tape refused =
    (all : List ℕ) × (times ≡ Some all) × (length all ≢ length tape) × (refused ≡ times_fault.OtherLength)

-- why a version is not shown, as far as the file of changes, its times and the version are the cause
abbrev pub IsVersionFault : Settings → Option (List ℕ) → Option (List ℕ) → ℕ → DrawingFault → Type 0
IsVersionFault settings bytes times n (fault.Changes refused) = IsFileFault settings bytes refused
IsVersionFault settings bytes times n (fault.Board refused) = ⊤
IsVersionFault settings bytes times n fault.VersionBeyondTape = (tape : Tape) × IsFileTape settings bytes tape × (length tape < n)
IsVersionFault settings bytes times n (fault.Plan refused) = ⊥
IsVersionFault settings bytes times n (fault.Times refused) =
    (tape : Tape) × IsFileTape settings bytes tape × AreOtherTimes times tape refused
IsVersionFault settings bytes times n fault.WriteFault = ⊤
IsVersionFault settings bytes times n fault.NoMemory = ⊤

-- a board is that of a roster after the changes of a tape
pub record IsBoardOf (sizes : Sizes) (tape : Tape) (board : Board) : Type 0 where
  pub same : board ≡ board_of sizes tape
  pub stands : StandsFor board tape
  pub of : board.sizes ≡ sizes

-- the board of a version of a file
pub record IsVersionBoard (settings : Settings) (bytes times : Option (List ℕ)) (n : ℕ) (board : Board) : Type 0 where
  pub tape : Tape
  pub has : HasVersion settings bytes times n tape
  pub made : IsBoardOf (sizes_of settings.roster) (version n tape) board

-- the report of what is seen of a symbol was written
pub record Reports (roster : Listing) (seen : Seen) (old new : Option (List ℕ)) : Type 0 where
  pub text : List ℕ
  pub report : IsReport roster seen text
  pub written : Appends old new text

-- the report of a symbol at a version was written
pub record ShowsVersion (settings : Settings) (bytes times : Option (List ℕ)) (n sym : ℕ) (old new : Option (List ℕ)) : Type 0 where
  pub tape : Tape
  pub has : HasVersion settings bytes times n tape
  pub reports : Reports settings.roster (view_of (sizes_of settings.roster) (version n tape) sym) old new

-- whether an answer is of sentences and tables, and not of JSON
abbrev pub is_text : Form → Bool
is_text (form.Text colours) = true
is_text form.Json = false

-- the opening changes of a version were written, a record each
pub record WritesOpening (settings : Settings) (bytes : Option (List ℕ)) (n : ℕ) (old new : Option (List ℕ)) : Type 0 where
  pub tape : Tape
  pub has : HasVersion settings bytes None n tape
  pub changes : List Change
  pub opens : Opens (board_of (sizes_of settings.roster) (version n tape)) changes
  pub written : Appends old new (changes_text settings.roster changes)
