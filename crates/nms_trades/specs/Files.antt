-- A file of executions that is judged on a file of changes: its records, how a call ends, and why one does not. This product's
-- own rule.
use Rattle.std.specs.Prelude.{ℕ, ⊤, ◌≡◌, ◌≢◌, ◌<◌, ◌⊎◌, All, Bool, true, false, List, [], ◌∷◌, IsSome, length, option_copied}
use Rattle.std.specs.Prelude.{Option, Some, None}
use Rattle.std.specs.Io.KnownBytes.{Appends}
use Rattle.nms_quote.specs.Roster.{Listing, sizes_of}
use Rattle.nms_quote.specs.Tape.{Tape}
use Rattle.nms_fees.specs.Settings.{Settings}
use Rattle.nms_files.specs.ChangeFile.{IsFileFault, IsFileTape}
use Rattle.nms_lines.specs.Layout.{Record}
use Rattle.nms_lines.specs.Records.{AreAllRecords, BeginRecords}
use Rattle.nms_show.specs.declared.ending.Ending.{Ending}
use Rattle.nms_show.specs.declared.ending.Ending.TheVariants as ending
use Rattle.nms_show.specs.declared.form.Form.{Form}
use Rattle.nms_show.specs.declared.form.Form.TheVariants as form
use Rattle.nms_show.specs.declared.show_fault.ShowFault.TheVariants as show_fault
use Rattle.nms_times.specs.Faults.{IsFall}
use Rattle.nms_times.specs.Times.{between}
use Rattle.nms_times.specs.declared.times_fault.TimesFault.{TimesFault}
use Rattle.nms_times.specs.declared.times_fault.TimesFault.TheVariants as times_fault
use Rattle.nms_trades.specs.Answers.{AreNumbered, answers_text, columns_text}
use Rattle.nms_trades.specs.Found.{IsJudged}
use Rattle.nms_trades.specs.Reading.{IsInWindow, IsOn}
use Rattle.nms_trades.specs.Turns.{AreAnswered}
use Rattle.nms_trades.specs.declared.TheConstants.{MOST_EXECUTIONS}
use Rattle.nms_trades.specs.declared.clock.Timing.{Timing}
use Rattle.nms_trades.specs.declared.execution.Execution.{Execution}
use Rattle.nms_trades.specs.declared.execution_file.Refusal.{Refusal}
use Rattle.nms_trades.specs.declared.finding.Finding.{Finding}
use Rattle.nms_trades.specs.declared.trades.Layout.{Layout}
use Rattle.nms_trades.specs.declared.trades.Layout.TheVariants as layout
use Rattle.nms_trades.specs.declared.trades_fault.TradesFault.{TradesFault}
use Rattle.nms_trades.specs.declared.trades_fault.TradesFault.TheVariants as fault

-- the records of a file: each is an execution or is refused, under its number
pub record AreRecordsOf (bytes : Option (List ℕ)) (executions : List Execution) (refused : List Refusal) : Type 0 where
  pub fields : List Record
  pub all : AreAllRecords bytes fields
  pub numbered : AreNumbered (length fields) executions refused

-- a file has more records than a number
pub record HasMoreThan (most : ℕ) (bytes : Option (List ℕ)) : Type 0 where
  pub fields : List Record
  pub first : BeginRecords bytes fields
  pub more : most < length fields

-- how a call ends: refused if a record is
abbrev pub ending_of : List Refusal → Ending
ending_of [] = ending.Done
ending_of (refusal ∷ rest) = ending.Refused

-- whether a fault may come after a prefix of the answers: any other leaves nothing written
abbrev pub is_begun : TradesFault → Bool
is_begun (fault.Changes refused) = false
is_begun (fault.Executions refused) = false
is_begun (fault.Times refused) = false
is_begun (fault.Symbols refused) = false
is_begun (fault.Board refused) = false
is_begun fault.TooLong = false
is_begun (fault.Show refused) = true

-- the first time that falls: among those of all changes, or of those of a symbol that a file of symbols says
abbrev pub IsFallIn : (symbols : Option (List ℕ)) → (times : List ℕ) → TimesFault → Type 0
IsFallIn None times refused = IsFall times 0 refused
IsFallIn (Some text) times refused = (before : ℕ) × (last : ℕ) × IsFall (between times before last) before refused

-- why times are refused whose number is that of the changes, or out of memory for them
abbrev pub IsTimingFault : (symbols : Option (List ℕ)) → (times : List ℕ) → TradesFault → Type 0
IsTimingFault symbols times (fault.Changes refused) = ⊥
IsTimingFault symbols times (fault.Executions refused) = ⊥
IsTimingFault symbols times (fault.Times refused) = IsFallIn symbols times refused
IsTimingFault symbols times (fault.Symbols refused) = IsSome symbols
IsTimingFault symbols times (fault.Board refused) = ⊥
IsTimingFault symbols times fault.TooLong = ⊥
IsTimingFault symbols times (fault.Show refused) = refused ≡ show_fault.NoMemory

-- why times that are given are refused: their number is not that of the changes, or one falls; without times there is no such fault
abbrev pub IsClockFault : Option Timing → (changes : ℕ) → TradesFault → Type 0
IsClockFault None changes why = ⊥
IsClockFault (Some timing) changes why =
    ((why ≡ fault.Times times_fault.OtherLength) × (length timing.times.now ≢ changes))
    ⊎ ((length timing.times.now ≡ changes) × IsTimingFault (option_copied timing.symbols) timing.times.now why)

-- why the records of a file are not read: the source failed, or out of memory, or there are more than are taken
abbrev pub IsReadingFault : (bytes : Option (List ℕ)) → TradesFault → Type 0
IsReadingFault bytes (fault.Changes refused) = ⊥
IsReadingFault bytes (fault.Executions refused) = ⊤
IsReadingFault bytes (fault.Times refused) = ⊥
IsReadingFault bytes (fault.Symbols refused) = ⊥
IsReadingFault bytes (fault.Board refused) = ⊥
IsReadingFault bytes fault.TooLong = HasMoreThan MOST_EXECUTIONS bytes
IsReadingFault bytes (fault.Show refused) = ⊥

-- whether answers are counts and sums
abbrev pub is_table : Layout → Bool
is_table layout.Lines = false
is_table layout.Table = true
is_table layout.Quality = true
is_table layout.Columns = false

-- why the answers are not written to the end: only sums that no number holds leave a table unwritten
abbrev pub IsWritingFault : Layout → TradesFault → Type 0
IsWritingFault wanted (fault.Changes refused) = ⊥
IsWritingFault wanted (fault.Executions refused) = ⊥
IsWritingFault wanted (fault.Times refused) = ⊥
IsWritingFault wanted (fault.Symbols refused) = ⊥
IsWritingFault wanted (fault.Board refused) = ⊥
IsWritingFault wanted fault.TooLong = is_table wanted ≡ true
IsWritingFault wanted (fault.Show refused) = ⊤

-- no memory for the board or for what is found
abbrev pub IsBoardFault : TradesFault → Type 0
IsBoardFault (fault.Changes refused) = ⊥
IsBoardFault (fault.Executions refused) = ⊥
IsBoardFault (fault.Times refused) = ⊥
IsBoardFault (fault.Symbols refused) = ⊥
IsBoardFault (fault.Board refused) = ⊤
IsBoardFault fault.TooLong = ⊥
IsBoardFault (fault.Show refused) = ⊥

-- why the executions of a file are not judged on a number of changes
abbrev pub IsSourceFault : Option Timing → (changes : ℕ) → (bytes : Option (List ℕ)) → TradesFault → Type 0
IsSourceFault timing changes bytes why = IsClockFault timing changes why ⊎ IsReadingFault bytes why

-- why a file of executions is not judged on a file of changes, or not to the end. The file of changes decides first
abbrev pub IsFileTradesFault : Settings → (changes executions : Option (List ℕ)) → Option Timing → Layout → TradesFault → Type 0
IsFileTradesFault settings changes executions timing wanted (fault.Changes refused) = IsFileFault settings changes refused
IsFileTradesFault settings changes executions timing wanted other =
    (tape : Tape) × IsFileTape settings changes tape
    × (IsSourceFault timing (length tape) executions other ⊎ (IsBoardFault other ⊎ IsWritingFault wanted other))

-- whether answers are lines of text
abbrev pub is_lines : Form → Bool
is_lines (form.Text colours) = true
is_lines form.Json = false

-- whether answers are records of text, and not objects or tables. Columns are text in any form
abbrev pub is_csv : Layout → Form → Bool
is_csv layout.Lines form = is_lines form
is_csv layout.Table form = false
is_csv layout.Quality form = false
is_csv layout.Columns form = true

-- their text. Nothing is promised about tables
abbrev pub text_in : Layout → Listing → List Execution → List Refusal → List (Option Finding) → List ℕ
text_in layout.Lines roster executions refused found = answers_text roster executions refused found
text_in layout.Table roster executions refused found = []
text_in layout.Quality roster executions refused found = []
text_in layout.Columns roster executions refused found = columns_text roster executions refused found

-- the records of a file, with what is found on a tape of each execution among them
pub record AreJudged (roster : Listing) (tape : Tape) (bytes : Option (List ℕ)) (executions : List Execution) (refused : List Refusal)
    (found : List (Option Finding)) : Type 0 where
  pub records : AreRecordsOf bytes executions refused
  pub known : All (IsOn roster (length tape)) executions
  pub within : All IsInWindow executions
  pub judged : AreAnswered (IsJudged (sizes_of roster) tape) executions found

-- they are answered, and the call ends by those that are refused
pub record IsJudgedOn (roster : Listing) (tape : Tape) (bytes : Option (List ℕ)) (form : Form) (wanted : Layout)
    (old new : Option (List ℕ)) (ended : Ending) : Type 0 where
  pub executions : List Execution
  pub refused : List Refusal
  pub found : List (Option Finding)
  pub judged : AreJudged roster tape bytes executions refused found
  pub ends : ended ≡ ending_of refused
  pub written : is_csv wanted form ≡ true → Appends old new (text_in wanted roster executions refused found)

-- the same on the tape of a file of changes
pub record IsJudgedFile (settings : Settings) (changes executions : Option (List ℕ)) (form : Form) (wanted : Layout)
    (old new : Option (List ℕ)) (ended : Ending) : Type 0 where
  pub tape : Tape
  pub file : IsFileTape settings changes tape
  pub on : IsJudgedOn settings.roster tape executions form wanted old new ended
