-- What a failed call of the program had written: its answers, and the text about its fault. This product's own rule.
use Rattle.std.specs.Prelude.{ℕ, ◌≡◌, List, Option}
use Rattle.nms_lines.specs.Written.{WritesPart}
use Rattle.nms_text.specs.declared.text_fault.TextFault.TheVariants as text_fault
use Rattle.nms_command.specs.Failed.{AreStopped}
use Rattle.nms_command.specs.declared.ending.Ending.TheVariants as ending
use Rattle.nms_tool.specs.Served.{AreServed}
use Rattle.nms_tool.specs.Statuses.{TellsFault}
use Rattle.nms_tool.specs.declared.tool_fault.ToolFault.{ToolFault}
use Rattle.nms_tool.specs.declared.tool_fault.ToolFault.TheVariants as tool

-- what a live run had written of its complete result when it failed: a prefix if the writer failed, else nothing
abbrev pub StopsRun : (Option (List ℕ) → Type 0) → Option (List ℕ) → Option (List ℕ) → ToolFault → Type 0
StopsRun Whole old new (tool.LiveText text_fault.WriteFault) = WritesPart Whole old new
StopsRun Whole old new (tool.LiveText text_fault.NoMemory) = new ≡ old
StopsRun Whole old new (tool.Live why) = new ≡ old
StopsRun Whole old new (tool.Command why) = ⊥

-- what had been written of the answers when what the arguments ask for failed
abbrev pub Stops : List (List ℕ) → Option (List ℕ) → Option (List ℕ) → Option (List ℕ) → ToolFault → Type 0
Stops words input old new (tool.Command why) = AreStopped words input old new why
Stops words input old new (tool.Live why) = new ≡ old
Stops words input old new (tool.LiveText why) = StopsRun (λ whole. AreServed words input old whole ending.Done) old new (tool.LiveText why)

-- the call failed by a fault of this status: the fault was reported, and of the answers was written what such a fault leaves
pub record Fails (words : List (List ℕ)) (input old new errors_old errors_new : Option (List ℕ)) (status : ℕ) : Type 0 where
  pub told : TellsFault status errors_old errors_new
  pub left : Stops words input old new told.fault
