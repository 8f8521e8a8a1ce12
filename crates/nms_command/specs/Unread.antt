-- Why a file, or the process's own words, could not be read. This product's own rule.
use Rattle.std.specs.Prelude.{◌≡◌, ◌⊎◌}
use Rattle.nms_command.specs.declared.command_fault.CommandFault.{CommandFault}
use Rattle.nms_command.specs.declared.command_fault.CommandFault.TheVariants as fault
use Rattle.nms_text.specs.declared.script_fault.ScriptFault.TheVariants as script_fault
use Rattle.nms_words.specs.declared.words_fault.WordsFault.TheVariants as words_fault

-- why a file could not be read: there was no memory, reported as E4, or anything else, reported as E1
abbrev pub IsUnread : CommandFault → Type 0
IsUnread why = (why ≡ fault.Unreadable) ⊎ (why ≡ fault.Script script_fault.NoMemory)

-- why the process's own words could not be taken: there was no memory, reported as G2, or a word is no UTF-8, reported as usage
abbrev pub AreUnread : CommandFault → Type 0
AreUnread why = (why ≡ fault.Usage) ⊎ (why ≡ fault.Words words_fault.NoMemory)
