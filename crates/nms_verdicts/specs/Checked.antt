-- How a request that judges every plan of a text of answers ends. It ends by what an audit finds of each plan, on the plan's own
-- version of the changes that a file says. This product's own rule.
use Rattle.std.specs.Prelude.{ℕ, ◌≡◌, ◌⊎◌, All, Any, Bool, List, Option, Some, None, true, false, filter, length, nat_lt}
use Rattle.std.specs.Prelude.{◌+◌, if◌then◌else◌}
use Rattle.std.specs.List.{AllZip}
use Rattle.csv.specs.Reading.{strip_bom}
use Rattle.nms_quote.specs.Tape.{Tape}
use Rattle.nms_quote.specs.declared.certificate.Cut.{Cut}
use Rattle.nms_quote.specs.declared.plan.Plan.{Plan}
use Rattle.nms_lines.specs.Layout.{Record}
use Rattle.nms_lines.specs.PlanReading.{plan_in}
use Rattle.nms_lines.specs.Records.{AreAllRecords}
use Rattle.nms_fees.specs.Settings.{Settings}
use Rattle.nms_files.specs.ChangeFile.{IsFileTape}
use Rattle.nms_show.specs.declared.ending.Ending.{Ending}
use Rattle.nms_show.specs.declared.ending.Ending.TheVariants as ending
use Rattle.nms_verdicts.specs.Explained.{EndsBy, IsExplainedOn}
use Rattle.nms_verdicts.specs.Pieces.{ArePieces}
use Rattle.nms_verdicts.specs.declared.checking.Counts.{Counts}
use Rattle.nms_verdicts.specs.declared.checking.Outcome.{Outcome}
use Rattle.nms_verdicts.specs.declared.checking.Outcome.TheVariants as outcome
use Rattle.nms_verdicts.specs.declared.verdict.Verdict.{Verdict}
use Rattle.nms_verdicts.specs.declared.verdict.Verdict.TheVariants as verdict

-- a text says a plan that is confirmed, or one that is doubted
abbrev pub IsConfirmed : Settings → Tape → List ℕ → Type 0
IsConfirmed settings tape text = IsExplainedOn settings tape text ending.Done

abbrev pub IsDoubted : Settings → Tape → List ℕ → Type 0
IsDoubted settings tape text = IsExplainedOn settings tape text ending.Doubted

-- it says no plan with a certificate
abbrev pub IsUnreadable : Settings → List ℕ → Type 0
IsUnreadable settings text = (records : List Record) → AreAllRecords (Some text) records → plan_in settings.roster records ≡ None

-- how a request that judges several texts ends: doubted if one is doubted, else refused if one is unreadable, else done
abbrev pub EndsByAll : Settings → Tape → List (List ℕ) → Ending → Type 0
EndsByAll settings tape texts ending.Done = All (IsConfirmed settings tape) texts
EndsByAll settings tape texts ending.Doubted =
    Any (IsDoubted settings tape) texts
    × All (λ text. IsConfirmed settings tape text ⊎ (IsDoubted settings tape text ⊎ IsUnreadable settings text)) texts
EndsByAll settings tape texts ending.Refused =
    Any (IsUnreadable settings) texts × All (λ text. IsConfirmed settings tape text ⊎ IsUnreadable settings text) texts
EndsByAll settings tape texts ending.SetupRefused = ⊥

-- by the pieces of a text, on the changes that a file's bytes say
pub record IsChecked (settings : Settings) (bytes : Option (List ℕ)) (text : List ℕ) (ended : Ending) : Type 0 where
  pub tape : Tape
  pub changes : IsFileTape settings bytes tape
  pub pieces : List (List ℕ)
  pub parted : ArePieces (strip_bom text) pieces
  pub by : EndsByAll settings tape pieces ended

-- what an outcome says of a text
abbrev pub IsOutcome : Settings → Tape → List ℕ → Outcome → Type 0
IsOutcome settings tape text outcome.Confirmed = IsConfirmed settings tape text
IsOutcome settings tape text outcome.Doubted = IsDoubted settings tape text
IsOutcome settings tape text outcome.Unreadable = IsUnreadable settings text

-- the outcome for a plan and its cuts
abbrev pub IsOutcomeOf : Settings → Tape → Plan → List Cut → Outcome → Type 0
IsOutcomeOf settings tape plan cuts outcome.Confirmed = EndsBy settings tape plan cuts ending.Done
IsOutcomeOf settings tape plan cuts outcome.Doubted = EndsBy settings tape plan cuts ending.Doubted
IsOutcomeOf settings tape plan cuts outcome.Unreadable = ⊥

-- the outcome of a verdict
abbrev pub outcome_of : Verdict → Outcome
outcome_of verdict.Confirmed = outcome.Confirmed
outcome_of (verdict.Beyond changes) = outcome.Doubted
outcome_of (verdict.Doubted doubt place) = outcome.Doubted

abbrev pub is_confirmed : Outcome → Bool
is_confirmed outcome.Confirmed = true
is_confirmed outcome.Doubted = false
is_confirmed outcome.Unreadable = false

abbrev pub is_doubted : Outcome → Bool
is_doubted outcome.Confirmed = false
is_doubted outcome.Doubted = true
is_doubted outcome.Unreadable = false

abbrev pub is_unreadable : Outcome → Bool
is_unreadable outcome.Confirmed = false
is_unreadable outcome.Doubted = false
is_unreadable outcome.Unreadable = true

-- the counts with one more
abbrev pub counted : Counts → Outcome → Counts
counted counts outcome.Confirmed = record counts { confirmed = counts.confirmed + 1 }
counted counts outcome.Doubted = record counts { doubted = counts.doubted + 1 }
counted counts outcome.Unreadable = record counts { unreadable = counts.unreadable + 1 }

-- the ending by counts
abbrev pub ending_by : Counts → Ending
ending_by counts =
    if nat_lt 0 counts.doubted then ending.Doubted else (if nat_lt 0 counts.unreadable then ending.Refused else ending.Done)

-- how many of the texts had each outcome
pub record AreCounts (settings : Settings) (tape : Tape) (texts : List (List ℕ)) (counts : Counts) : Type 0 where
  pub outcomes : List Outcome
  pub found : AllZip (IsOutcome settings tape) texts outcomes
  pub confirmed : counts.confirmed ≡ length (filter is_confirmed outcomes)
  pub doubted : counts.doubted ≡ length (filter is_doubted outcomes)
  pub unreadable : counts.unreadable ≡ length (filter is_unreadable outcomes)
  pub total : counts.confirmed + counts.doubted + counts.unreadable ≡ length texts
