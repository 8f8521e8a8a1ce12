-- A file of executions on the picture of a day, and as a page: how the calls end, and why one does not. This product's own rule.
use Rattle.std.specs.Prelude.{ℕ, ◌≡◌, ◌⊎◌, Bool, true, false, List, length, Option}
use Rattle.nms_quote.specs.Tape.{Tape}
use Rattle.nms_fees.specs.Settings.{Settings}
use Rattle.nms_files.specs.ChangeFile.{IsFileFault, IsFileTape}
use Rattle.nms_show.specs.declared.ending.Ending.{Ending}
use Rattle.nms_drawing.specs.Days.{Fits, IsFileDayFault}
use Rattle.nms_drawing.specs.Faults as drawing_faults
use Rattle.nms_drawing.specs.declared.drawing_fault.DrawingFault.TheVariants as drawing_fault
use Rattle.nms_trades.specs.Files.{AreJudged, IsBoardFault, IsSourceFault, IsWritingFault, ending_of}
use Rattle.nms_trades.specs.declared.clock.Timing.{Timing}
use Rattle.nms_trades.specs.declared.execution.Execution.{Execution}
use Rattle.nms_trades.specs.declared.execution_file.Refusal.{Refusal}
use Rattle.nms_trades.specs.declared.finding.Finding.{Finding}
use Rattle.nms_trades.specs.declared.trades.Layout.TheVariants as layout
use Rattle.nms_trades.specs.declared.trades_fault.TradesFault.{TradesFault}
use Rattle.nms_trades.specs.declared.trades_fault.TradesFault.TheVariants as trades_fault
use Rattle.nms_drawing.specs.declared.executions.page_fault.PageFault.{PageFault}
use Rattle.nms_drawing.specs.declared.executions.page_fault.PageFault.TheVariants as fault

-- why the executions of a file are not judged on a tape of n changes
abbrev pub IsJudgingFault : Option Timing → (changes : ℕ) → (bytes : Option (List ℕ)) → TradesFault → Type 0
IsJudgingFault timing changes bytes why = IsSourceFault timing changes bytes why ⊎ IsBoardFault why

-- the executions of a file were drawn on a day of a file of changes, and the call ends by the records that are refused
pub record IsDrawnFile (settings : Settings) (changes bytes : Option (List ℕ)) (from : ℕ) (to : Option ℕ) (own : Bool)
    (times : Option (List ℕ)) (ended : Ending) : Type 0 where
  pub tape : Tape
  pub file : IsFileTape settings changes tape
  pub executions : List Execution
  pub refused : List Refusal
  pub found : List (Option Finding)
  pub judged : AreJudged settings.roster tape bytes executions refused found
  pub fits : Fits from to own times tape
  pub ends : ended ≡ ending_of refused

-- why they are not drawn: the day is not, or they are not judged
abbrev pub IsDrawnFault : Settings → (changes bytes : Option (List ℕ)) → Option Timing → (from : ℕ) → (to : Option ℕ) → (own : Bool)
    → (times plan : Option (List ℕ)) → PageFault → Type 0
IsDrawnFault settings changes bytes timing from to own times plan (fault.Drawing refused) =
    IsFileDayFault settings changes from to own times plan refused
IsDrawnFault settings changes bytes timing from to own times plan (fault.Trades refused) =
    (tape : Tape) × IsFileTape settings changes tape × IsJudgingFault timing (length tape) bytes refused

-- whether a fault may come after a prefix of a page: any other leaves nothing written
abbrev pub is_picture_begun : PageFault → Bool
is_picture_begun (fault.Drawing refused) = drawing_faults.is_begun refused
is_picture_begun (fault.Trades refused) = false

-- the same of the answers and of a page: memory, the output, or sums that no number holds
abbrev pub is_begun : PageFault → Bool
is_begun (fault.Drawing (drawing_fault.Changes refused)) = false
is_begun (fault.Drawing other) = true
is_begun (fault.Trades trades_fault.TooLong) = true
is_begun (fault.Trades (trades_fault.Show refused)) = true
is_begun (fault.Trades other) = false

-- a fault of memory or of the output, or sums that no number holds
abbrev pub IsOutputFault : PageFault → Type 0
IsOutputFault (fault.Drawing refused) = drawing_faults.is_of_input refused ≡ false
IsOutputFault (fault.Trades refused) = IsWritingFault layout.Table refused

-- why the executions of a file are not judged on a tape of n changes
abbrev pub IsUnjudged : Option Timing → (changes : ℕ) → (bytes : Option (List ℕ)) → PageFault → Type 0
IsUnjudged timing changes bytes (fault.Drawing refused) = ⊥
IsUnjudged timing changes bytes (fault.Trades refused) = IsJudgingFault timing changes bytes refused

-- why a page of executions is not written: the file of changes is refused, else they are not judged, else the answers or the page
-- are not written
abbrev pub IsPageFault : Settings → (changes bytes : Option (List ℕ)) → Option Timing → PageFault → Type 0
IsPageFault settings changes bytes timing (fault.Drawing (drawing_fault.Changes refused)) = IsFileFault settings changes refused
IsPageFault settings changes bytes timing other =
    (tape : Tape) × IsFileTape settings changes tape × (IsUnjudged timing (length tape) bytes other ⊎ IsOutputFault other)
