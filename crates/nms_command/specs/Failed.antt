-- What a request had written when it failed. A script is answered record by record, so its first records were answered. Any
-- other request writes its answer when the answer is complete. So nothing of it was written, or a prefix if the writer failed.
-- This product's own rule.
use Rattle.std.specs.Prelude.{ℕ, ◌≡◌, ◌⊎◌, Bool, true, false, List, Option, Some}
use Rattle.nms_fees.specs.Settings.{Settings}
use Rattle.nms_lines.specs.Written.{WritesPart}
use Rattle.nms_scripts.specs.Script.{AnswersBeginning, AnswersInPart}
use Rattle.nms_text.specs.declared.script_fault.ScriptFault.TheVariants as script_fault
use Rattle.nms_text.specs.declared.text_fault.TextFault.TheVariants as text_fault
use Rattle.nms_file_answers.specs.declared.plan_fault.PlanFault.TheVariants as plan_fault
use Rattle.nms_file_answers.specs.declared.report_fault.ReportFault.TheVariants as report_fault
use Rattle.nms_words.specs.CommandLine.{Asked, asked_by}
use Rattle.nms_words.specs.declared.subcommand.Sub.{Sub}
use Rattle.nms_words.specs.declared.subcommand.Sub.TheVariants as sub
use Rattle.nms_command.specs.Served.{IsSetup, Serves}
use Rattle.nms_command.specs.Steps.{AreMet, Meets}
use Rattle.nms_command.specs.declared.command_fault.CommandFault.{CommandFault}
use Rattle.nms_command.specs.declared.command_fault.CommandFault.TheVariants as fault
use Rattle.nms_command.specs.declared.ending.Ending.{Ending}
use Rattle.nms_command.specs.declared.step.Step.TheVariants as step

-- whether it was the writer of the answers that failed
abbrev pub is_write_fault : CommandFault → Bool
is_write_fault (fault.Script script_fault.WriteFault) = true
is_write_fault (fault.Report report_fault.WriteFault) = true
is_write_fault (fault.Plan (plan_fault.Text text_fault.WriteFault)) = true
is_write_fault _ = false

-- if the writer failed, a prefix of the answer was written; if anything else failed, nothing was
abbrev pub LeavesPart : (Option (List ℕ) → Type 0) → Option (List ℕ) → Option (List ℕ) → Bool → Type 0
LeavesPart Whole old new true = WritesPart Whole old new
LeavesPart Whole old new false = new ≡ old

-- what was written of an answer when its request failed, whichever ending it would have had
abbrev pub CutsShort : (Option (List ℕ) → Ending → Type 0) → Option (List ℕ) → Option (List ℕ) → CommandFault → Type 0
CutsShort Answers old new why = LeavesPart (λ whole. (ends : Ending) × Answers whole ends) old new (is_write_fault why)

-- the first records of a script were answered; if the writer failed, a prefix of their answers was written
abbrev pub StopsScript : Settings → Option (List ℕ) → Option (List ℕ) → Option (List ℕ) → CommandFault → Type 0
StopsScript settings input old new (fault.Script script_fault.WriteFault) = AnswersInPart settings input old new
StopsScript settings input old new (fault.Script why) = AnswersBeginning settings input old new why
StopsScript settings input old new _ = ⊥

-- what a request under a setup had written when it failed
abbrev pub Stops : Sub → Settings → Asked → Option (List ℕ) → Option (List ℕ) → Option (List ℕ) → CommandFault → Type 0
Stops sub.Script settings asked input old new why = StopsScript settings input old new why
Stops sub.Report settings asked input old new why = CutsShort (Serves sub.Report settings asked input old) old new why
Stops sub.Plan settings asked input old new why = CutsShort (Serves sub.Plan settings asked input old) old new why
Stops sub.Check settings asked input old new why = CutsShort (Serves sub.Check settings asked input old) old new why
Stops sub.Live settings asked input old new why = new ≡ old

-- a script was begun under some setup, and stopped
abbrev pub IsScriptStopped : Asked → Option (List ℕ) → Option (List ℕ) → Option (List ℕ) → CommandFault → Type 0
IsScriptStopped asked input old new why =
    (settings : Settings) × IsSetup settings × (asked.command ≡ sub.Script) × StopsScript settings input old new why

-- what a request had written when it failed
abbrev pub IsStopped : Asked → Option (List ℕ) → Option (List ℕ) → Option (List ℕ) → CommandFault → Type 0
IsStopped asked input old new why =
    CutsShort (λ whole ends. Meets asked input old whole (step.Ended ends)) old new why ⊎ IsScriptStopped asked input old new why

-- what had been written when what the arguments ask for failed: the request that they are, or help
abbrev pub AreStopped : List (List ℕ) → Option (List ℕ) → Option (List ℕ) → Option (List ℕ) → CommandFault → Type 0
AreStopped words input old new why =
    CutsShort (λ whole ends. AreMet words input old whole (step.Ended ends)) old new why
    ⊎ ((asked : Asked) × (asked_by words ≡ Some asked) × IsScriptStopped asked input old new why)
