-- The stream of a file of changes: all of them are one tape. This product's own rule.
use Rattle.std.specs.Prelude.{ℕ, ⊤, Bool, true, false, List, Option}
use Rattle.std.specs.Io.KnownBytes.{Appends}
use Rattle.nms_quote.specs.Tape.{Tape}
use Rattle.nms_fees.specs.Settings.{Settings}
use Rattle.nms_files.specs.ChangeFile.{IsFileFault, IsFileTape}
use Rattle.nms_stream.specs.Stream.{stream_text}
use Rattle.nms_stream.specs.declared.stream_fault.StreamFault.{StreamFault}
use Rattle.nms_stream.specs.declared.stream_fault.StreamFault.TheVariants as fault

-- the stream of all the changes of a file was written, and nothing else
pub record StreamsFile (settings : Settings) (bytes : Option (List ℕ)) (asked : Option ℕ) (old new : Option (List ℕ)) : Type 0 where
  pub tape : Tape
  pub file : IsFileTape settings bytes tape
  pub written : Appends old new (stream_text settings.roster asked tape)

-- why a file of changes is not streamed, as far as the file itself is the cause
abbrev pub IsStreamFault : Settings → Option (List ℕ) → StreamFault → Type 0
IsStreamFault settings bytes (fault.Changes refused) = IsFileFault settings bytes refused
IsStreamFault settings bytes _ = ⊤

-- whether a fault is that of the file
abbrev pub is_of_file : StreamFault → Bool
is_of_file (fault.Changes refused) = true
is_of_file (fault.Board refused) = false
is_of_file fault.WriteFault = false
is_of_file fault.NoMemory = false

-- whether a fault came after the stream was begun: it leaves a prefix written, and any other leaves nothing
abbrev pub is_begun : StreamFault → Bool
is_begun (fault.Changes refused) = false
is_begun (fault.Board refused) = false
is_begun fault.WriteFault = true
is_begun fault.NoMemory = true
