-- The stream of a file of changes as it was asked for: when it is the stream itself, and why there is none. This product's own
-- rule.
use Rattle.std.specs.Prelude.{ℕ, ⊤, Bool, false, List, Option, Some, None}
use Rattle.nms_quote.specs.Tape.{Tape}
use Rattle.nms_fees.specs.Settings.{Settings}
use Rattle.nms_files.specs.ChangeFile.{IsFileFault, IsFileTape}
use Rattle.nms_show.specs.declared.form.Form.{Form}
use Rattle.nms_drawing.specs.Versions.{AreOtherTimes, is_text}
use Rattle.nms_drawing.specs.declared.drawing_fault.DrawingFault.{DrawingFault}
use Rattle.nms_drawing.specs.declared.drawing_fault.DrawingFault.TheVariants as fault

-- whether the stream is written as it is: as text, without times
abbrev pub is_plain : Option (List ℕ) → Form → Bool
is_plain None form = is_text form
is_plain (Some times) form = false

-- why changes are not streamed, as far as their file and its times are the cause
abbrev pub IsStreamedFault : Settings → Option (List ℕ) → Option (List ℕ) → DrawingFault → Type 0
IsStreamedFault settings bytes times (fault.Changes refused) = IsFileFault settings bytes refused
IsStreamedFault settings bytes times (fault.Board refused) = ⊤
IsStreamedFault settings bytes times fault.VersionBeyondTape = ⊥
IsStreamedFault settings bytes times (fault.Plan refused) = ⊥
IsStreamedFault settings bytes times (fault.Times refused) =
    (tape : Tape) × IsFileTape settings bytes tape × AreOtherTimes times tape refused
IsStreamedFault settings bytes times fault.WriteFault = ⊤
IsStreamedFault settings bytes times fault.NoMemory = ⊤
