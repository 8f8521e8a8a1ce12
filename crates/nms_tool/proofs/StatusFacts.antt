-- The exit status of a fault is never that of a request that was served.
use Rattle.std.proofs.Common.{◌≡◌, ◌<◌}
use Rattle.nms_command.proofs.Offered.{IsFaultStatus, fault_status, five, seven, six, text_status}
use Rattle.nms_live.specs.Faults as live_faults
use Rattle.nms_live.specs.declared.live_fault.LiveFault.{LiveFault}
use Rattle.nms_live.specs.declared.live_fault.LiveFault.TheVariants as live
use Rattle.nms_tool.specs.Statuses.{status_of}
use Rattle.nms_tool.specs.declared.tool_fault.ToolFault.{ToolFault}
use Rattle.nms_tool.specs.declared.tool_fault.ToolFault.TheVariants as tool

live_status : (fault : LiveFault) → IsFaultStatus (live_faults.status_of fault)
live_status (live.Line of number why) = six
live_status live.Open = seven
live_status live.Append = seven
live_status live.Desk = seven
live_status live.GateLimit = seven
live_status live.NoMemory = five

tool_status : (fault : ToolFault) → IsFaultStatus (status_of fault)
tool_status (tool.Command fault) = fault_status fault
tool_status (tool.Live fault) = live_status fault
tool_status (tool.LiveText fault) = text_status fault

pub fault_below : (fault : ToolFault) → status_of fault < 8
fault_below fault = (tool_status fault).0

pub fault_not_done : (fault : ToolFault) → status_of fault ≡ 0 → ⊥
fault_not_done fault = (tool_status fault).1

pub fault_not_judged : (fault : ToolFault) → status_of fault ≡ 4 → ⊥
fault_not_judged fault = (tool_status fault).2
