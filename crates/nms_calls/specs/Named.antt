-- What a board holds, and the names of a setup for numbers. This product's own rule.
use Rattle.std.specs.Prelude.{ℕ, ◌-◌, nat_lt, List, length, Option, Some, None, if◌then◌else◌}
use Rattle.nms_quote.specs.Roster.{part_text, symbol_text}
use Rattle.nms_fees.specs.Settings.{Settings}
use Rattle.nms_opening.specs.declared.TheConstants.{MOST_BEFORE}
use Rattle.nms_calls.specs.Opened.{Opened, version}
use Rattle.nms_calls.specs.Written.{text_fault}
use Rattle.nms_calls.specs.declared.call_fault.CallFault.{CallFault}
use Rattle.nms_calls.specs.declared.call_fault.CallFault.TheVariants as fault
use Rattle.nms_calls.specs.declared.roster_calls.NmsCounts.{NmsCounts}

abbrev pub counts_of : Opened → NmsCounts
counts_of opened = record {
  applied = version opened;
  room = MOST_BEFORE - version opened;
  parts = length opened.settings.roster.parts;
  syms = length opened.settings.roster.syms;
}

-- why a name is not found
abbrev pub absent : CallFault → Option ℕ → Option CallFault
absent found None = Some found
absent found (Some place) = None

-- why a name is not written
abbrev pub part_name_fault : Settings → ℕ → List ℕ → Option CallFault
part_name_fault settings part out =
    if nat_lt part (length settings.roster.parts) then text_fault (part_text settings.roster part) out else Some fault.NoParticipant

abbrev pub sym_name_fault : Settings → ℕ → List ℕ → Option CallFault
sym_name_fault settings sym out =
    if nat_lt sym (length settings.roster.syms) then text_fault (symbol_text settings.roster sym) out else Some fault.NoSymbol
