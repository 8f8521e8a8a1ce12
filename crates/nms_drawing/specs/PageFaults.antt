-- The code of each fault of a page or a picture of executions, and the exit status of a call that it ends. This product's own rule.
use Rattle.std.specs.Prelude.{ℕ, List}
use Rattle.nms_drawing.specs.Faults as drawing_faults
use Rattle.nms_trades.specs.FileFaults.{file_code, file_status}
use Rattle.nms_drawing.specs.declared.executions.page_fault.PageFault.{PageFault}
use Rattle.nms_drawing.specs.declared.executions.page_fault.PageFault.TheVariants as fault

abbrev pub code_of : PageFault → List ℕ
code_of (fault.Drawing refused) = drawing_faults.code_of refused
code_of (fault.Trades refused) = file_code refused

abbrev pub status_of : PageFault → ℕ
status_of (fault.Drawing refused) = drawing_faults.status_of refused
status_of (fault.Trades refused) = file_status refused
