-- The report of one symbol after all the changes of a file. This product's own rule.
use Rattle.std.specs.Prelude.{ℕ, ⊤, ◌≡◌, List, Option}
use Rattle.std.specs.Io.KnownBytes.{Appends}
use Rattle.nms_quote.specs.Roster.{sizes_of}
use Rattle.nms_quote.specs.Tape.{Tape}
use Rattle.nms_board.specs.View.{view_of}
use Rattle.nms_fees.specs.Settings.{Settings}
use Rattle.nms_files.specs.ChangeFile.{IsFileFault, IsFileTape}
use Rattle.nms_text.specs.Report.{IsReport}
use Rattle.nms_file_answers.specs.declared.report_fault.ReportFault.{ReportFault}
use Rattle.nms_file_answers.specs.declared.report_fault.ReportFault.TheVariants as fault

-- the report of a symbol after all the changes of a file was written, and nothing else
pub record ReportsFile (settings : Settings) (bytes : Option (List ℕ)) (sym : ℕ) (old new : Option (List ℕ)) : Type 0 where
  pub tape : Tape
  pub file : IsFileTape settings bytes tape
  pub text : List ℕ
  pub report : IsReport settings.roster (view_of (sizes_of settings.roster) tape sym) text
  pub written : Appends old new text

-- why a file of changes is not reported, as far as the file itself is the cause
abbrev pub IsReportFault : Settings → Option (List ℕ) → ReportFault → Type 0
IsReportFault settings bytes (fault.Changes refused) = IsFileFault settings bytes refused
IsReportFault settings bytes _ = ⊤

-- a report that is refused is not begun: if it was not the writer that failed, nothing was written
abbrev pub WritesNothing : Option (List ℕ) → Option (List ℕ) → ReportFault → Type 0
WritesNothing old new fault.WriteFault = ⊤
WritesNothing old new _ = new ≡ old
