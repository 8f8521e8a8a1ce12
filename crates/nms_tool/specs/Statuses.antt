-- The exit status of each fault of the program, and the code that its line on standard error names: those that the crate of
-- the fault gives it. This product's own rule: 1 for streams and files, 2 for words, 3 for the setup, 5 for memory, 6 for
-- lines, plans and lengths, 7 for a live run.
use Rattle.std.specs.Prelude.{ℕ, ◌≡◌, ◌++◌, ◌∷◌, List, [], Option, codes}
use Rattle.std.specs.String.{string_bytes}
use Rattle.nms_command.specs.Statuses as command_faults
use Rattle.nms_command.specs.declared.command_fault.CommandFault.TheVariants as command
use Rattle.nms_lines.specs.Written.{AppendsPart}
use Rattle.nms_live.specs.Faults as live_faults
use Rattle.nms_text.specs.Faults as text_faults
use Rattle.nms_words.specs.declared.words_fault.WordsFault.TheVariants as words
use Rattle.nms_tool.specs.declared.tool_fault.ToolFault.{ToolFault}
use Rattle.nms_tool.specs.declared.tool_fault.ToolFault.TheVariants as tool

abbrev pub status_of : ToolFault → ℕ
status_of (tool.Command fault) = command_faults.status_of fault
status_of (tool.Live fault) = live_faults.status_of fault
status_of (tool.LiveText fault) = text_faults.status_of_text fault

-- the code that the line on standard error names
abbrev pub code_of : ToolFault → List ℕ
code_of (tool.Command fault) = command_faults.code_of fault
code_of (tool.Live fault) = live_faults.code_of fault
code_of (tool.LiveText fault) = text_faults.code_of_text fault

-- what is written about it on standard error: the parser's own text, or one line with the code
abbrev pub fault_text : ToolFault → List ℕ
fault_text (tool.Command (command.Words (words.Parser text help))) = string_bytes text
fault_text fault = codes "nms_tool: " ++ (code_of fault ++ 10 ∷ [])

-- a fault of this status was reported: a prefix of its text was written, and nothing else
pub record TellsFault (status : ℕ) (old new : Option (List ℕ)) : Type 0 where
  pub fault : ToolFault
  pub status_is : status_of fault ≡ status
  pub told : AppendsPart old new (fault_text fault)
