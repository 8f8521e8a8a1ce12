-- A day that is drawn of a file of changes: how it fits the file, and its faults.
use Rattle.std.proofs.Common.{ℕ, ◌≡◌, Bool, List, Option, subst}
use Rattle.std.specs.Prelude.{Err, IfErr, Ok, OnOk, Result}
use Rattle.nms_quote.specs.Roster.{Listing}
use Rattle.nms_quote.specs.Tape.{Tape}
use Rattle.nms_fees.specs.Settings.{Settings}
use Rattle.nms_files.specs.ChangeFile.{IsFileTape}
use Rattle.nms_drawing.specs.Days.{Fits, FitsFile, IsDayFault, IsFileDayFault}
use Rattle.nms_drawing.specs.declared.drawing_fault.DrawingFault.{DrawingFault}
use Rattle.nms_drawing.specs.declared.drawing_fault.DrawingFault.TheVariants as drawing_fault

-- a day that fits a file's tape fits the file
pub file_fits : {T E : Type 0} (r : Result T E) (settings : Settings) (bytes : Option (List ℕ)) (from : ℕ) (to : Option ℕ) (own : Bool)
    (times : Option (List ℕ)) (tape : Tape) → IsFileTape settings bytes tape → OnOk r (Fits from to own times tape)
    → OnOk r (FitsFile settings bytes from to own times)
file_fits (Ok t) settings bytes from to own times tape file fits = record { tape = tape; file = file; fits = fits }
file_fits (Err e) settings bytes from to own times tape file fits = tt

-- why a day is not drawn on a file's tape is why it is not drawn of the file
pub file_day : (settings : Settings) (bytes : Option (List ℕ)) (from : ℕ) (to : Option ℕ) (own : Bool) (times plan : Option (List ℕ))
    (tape : Tape) (why : DrawingFault) → IsFileTape settings bytes tape → IsDayFault settings.roster tape from to own times plan why
    → IsFileDayFault settings bytes from to own times plan why
file_day settings bytes from to own times plan tape (drawing_fault.Changes refused) file is = absurd is
file_day settings bytes from to own times plan tape (drawing_fault.Board refused) file is = (tape, file, is)
file_day settings bytes from to own times plan tape drawing_fault.VersionBeyondTape file is = (tape, file, is)
file_day settings bytes from to own times plan tape (drawing_fault.Plan refused) file is = (tape, file, is)
file_day settings bytes from to own times plan tape (drawing_fault.Times refused) file is = (tape, file, is)
file_day settings bytes from to own times plan tape drawing_fault.WriteFault file is = (tape, file, is)
file_day settings bytes from to own times plan tape drawing_fault.NoMemory file is = (tape, file, is)

-- the same of a call that may fail
pub file_faults : {T : Type 0} (r : Result T DrawingFault) (settings : Settings) (roster : Listing) (bytes : Option (List ℕ)) (from : ℕ)
    (to : Option ℕ) (own : Bool) (times plan : Option (List ℕ)) (tape : Tape) → roster ≡ settings.roster → IsFileTape settings bytes tape
    → IfErr r (IsDayFault roster tape from to own times plan) → IfErr r (IsFileDayFault settings bytes from to own times plan)
file_faults (Ok t) settings roster bytes from to own times plan tape same file is = tt
file_faults (Err why) settings roster bytes from to own times plan tape same file is =
    file_day settings bytes from to own times plan tape why file
    (subst (λ (one : Listing). IsDayFault one tape from to own times plan why) same is)
