-- How a request for why a plan is, or is not, the best lawful one ends. It ends by what an audit finds of the plan that a text
-- says, on its own version of the changes that a file says. This product's own rule.
use Rattle.std.specs.Prelude.{◌≡◌, ◌<◌, ◌≤◌, ◌⊎◌, ℕ, List, length, Option, Some, None}
use Rattle.nms_quote.specs.Tape.{Tape}
use Rattle.nms_quote.specs.declared.certificate.Cut.{Cut}
use Rattle.nms_quote.specs.declared.plan.Plan.{Plan}
use Rattle.nms_lines.specs.Layout.{Record}
use Rattle.nms_lines.specs.PlanReading.{plan_in, said_by}
use Rattle.nms_lines.specs.Records.{AreAllRecords}
use Rattle.nms_fees.specs.Settings.{Settings}
use Rattle.nms_files.specs.ChangeFile.{IsFileTape}
use Rattle.nms_cert.specs.declared.doubt.Doubt.{Doubt}
use Rattle.nms_file_answers.specs.Audit.{doubt_on}
use Rattle.nms_show.specs.declared.ending.Ending.{Ending}
use Rattle.nms_show.specs.declared.ending.Ending.TheVariants as ending
use Rattle.nms_verdicts.specs.declared.verdict.Verdict.{Verdict}
use Rattle.nms_verdicts.specs.declared.verdict.Verdict.TheVariants as verdict

-- done if the plan is confirmed, else doubted
abbrev pub ending_of : Verdict → Ending
ending_of verdict.Confirmed = ending.Done
ending_of (verdict.Beyond changes) = ending.Doubted
ending_of (verdict.Doubted doubt place) = ending.Doubted

-- done exactly if the plan's version is one of the changes and no doubt holds there; doubted if it is not, or one does
abbrev pub EndsBy : Settings → Tape → Plan → List Cut → Ending → Type 0
EndsBy settings tape plan cuts ending.Done = (plan.version ≤ length tape) × (doubt_on settings tape plan cuts ≡ None)
EndsBy settings tape plan cuts ending.Doubted = (length tape < plan.version)
    ⊎ ((plan.version ≤ length tape) × ((doubt : Doubt) × (doubt_on settings tape plan cuts ≡ Some doubt)))
EndsBy settings tape plan cuts ending.Refused = ⊥
EndsBy settings tape plan cuts ending.SetupRefused = ⊥

-- by the plan and its cuts that a text says
pub record IsExplainedOn (settings : Settings) (tape : Tape) (text : List ℕ) (ended : Ending) : Type 0 where
  pub plan : Plan
  pub cuts : List Cut
  pub read : (records : List Record) → AreAllRecords (Some text) records → plan_in settings.roster records ≡ Some (said_by plan cuts)
  pub by : EndsBy settings tape plan cuts ended

-- on the changes that a file's bytes say
pub record IsExplained (settings : Settings) (bytes : Option (List ℕ)) (text : List ℕ) (ended : Ending) : Type 0 where
  pub tape : Tape
  pub changes : IsFileTape settings bytes tape
  pub plan : IsExplainedOn settings tape text ended
