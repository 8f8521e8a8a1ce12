-- The code of each fault of an answer and the exit status of a call that it ends, what a fault of a crate below becomes, and
-- which faults leave nothing written. This product's own rule.
use Rattle.std.specs.Prelude.{ℕ, Bool, true, false, List, codes}
use Rattle.nms_codes.specs.Codes.{code_of_times, status_of_times}
use Rattle.nms_files.specs.Faults.{code_of_changes, status_of_changes}
use Rattle.nms_lines.specs.PlanFaults as plan_faults
use Rattle.nms_show.specs.declared.show_fault.ShowFault.{ShowFault}
use Rattle.nms_show.specs.declared.show_fault.ShowFault.TheVariants as show_fault
use Rattle.nms_stream.specs.declared.stream_fault.StreamFault.{StreamFault}
use Rattle.nms_stream.specs.declared.stream_fault.StreamFault.TheVariants as stream_fault
use Rattle.nms_drawing.specs.declared.drawing_fault.DrawingFault.{DrawingFault}
use Rattle.nms_drawing.specs.declared.drawing_fault.DrawingFault.TheVariants as fault

abbrev pub code_of : DrawingFault → List ℕ
code_of (fault.Changes refused) = code_of_changes refused
code_of (fault.Board refused) = codes "B1"
code_of fault.VersionBeyondTape = codes "A1"
code_of (fault.Plan refused) = plan_faults.code_of refused
code_of (fault.Times refused) = code_of_times refused
code_of fault.WriteFault = codes "E2"
code_of fault.NoMemory = codes "E4"

abbrev pub status_of : DrawingFault → ℕ
status_of (fault.Changes refused) = status_of_changes refused
status_of (fault.Board refused) = 5
status_of fault.VersionBeyondTape = 6
status_of (fault.Plan refused) = plan_faults.status_of refused
status_of (fault.Times refused) = status_of_times refused
status_of fault.WriteFault = 1
status_of fault.NoMemory = 5

-- an answer that was not printed
abbrev pub of_show : ShowFault → DrawingFault
of_show show_fault.WriteFault = fault.WriteFault
of_show show_fault.NoMemory = fault.NoMemory

-- a stream that was not written completely
abbrev pub of_stream : StreamFault → DrawingFault
of_stream (stream_fault.Changes refused) = fault.Changes refused
of_stream (stream_fault.Board refused) = fault.Board refused
of_stream stream_fault.WriteFault = fault.WriteFault
of_stream stream_fault.NoMemory = fault.NoMemory

-- whether a fault may come after a prefix of an answer: any other leaves nothing written
abbrev pub is_begun : DrawingFault → Bool
is_begun (fault.Changes refused) = false
is_begun (fault.Board refused) = false
is_begun fault.VersionBeyondTape = false
is_begun (fault.Plan refused) = false
is_begun (fault.Times refused) = false
is_begun fault.WriteFault = true
is_begun fault.NoMemory = true

-- whether a fault is that of what was given: the changes, the version, the plan or the times
abbrev pub is_of_input : DrawingFault → Bool
is_of_input (fault.Changes refused) = true
is_of_input (fault.Board refused) = false
is_of_input fault.VersionBeyondTape = true
is_of_input (fault.Plan refused) = true
is_of_input (fault.Times refused) = true
is_of_input fault.WriteFault = false
is_of_input fault.NoMemory = false

-- whether a fault is out of memory
abbrev pub is_of_memory : DrawingFault → Bool
is_of_memory (fault.Changes refused) = false
is_of_memory (fault.Board refused) = true
is_of_memory fault.VersionBeyondTape = false
is_of_memory (fault.Plan refused) = false
is_of_memory (fault.Times refused) = false
is_of_memory fault.WriteFault = false
is_of_memory fault.NoMemory = true
