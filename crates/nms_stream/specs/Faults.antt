-- The code of each fault of a stream, and the exit status of a program that it ends. This product's own rule.
use Rattle.std.specs.Prelude.{ℕ, List, codes}
use Rattle.nms_files.specs.Faults.{code_of_changes, status_of_changes}
use Rattle.nms_stream.specs.declared.stream_fault.StreamFault.{StreamFault}
use Rattle.nms_stream.specs.declared.stream_fault.StreamFault.TheVariants as fault

abbrev pub code_of : StreamFault → List ℕ
code_of (fault.Changes refused) = code_of_changes refused
code_of (fault.Board refused) = codes "B1"
code_of fault.WriteFault = codes "E2"
code_of fault.NoMemory = codes "E4"

abbrev pub status_of : StreamFault → ℕ
status_of (fault.Changes refused) = status_of_changes refused
status_of (fault.Board refused) = 5
status_of fault.WriteFault = 1
status_of fault.NoMemory = 5
