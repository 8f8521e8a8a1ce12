-- What `check` writes of a plan, and how it ends: CONFIRMED, or DOUBT and the codes, one line. This product's own rule.
use Rattle.std.specs.Prelude.{ℕ, ◌≡◌, List, [], ◌∷◌, Option, Some, Result, Ok, Err, codes}
use Rattle.std.specs.Io.KnownBytes.{Appends}
use Rattle.nms_quote.specs.Tape.{Tape}
use Rattle.nms_quote.specs.Roster.{Listing}
use Rattle.nms_quote.specs.declared.certificate.Cut.{Cut}
use Rattle.nms_quote.specs.declared.plan.Plan.{Plan}
use Rattle.nms_fees.specs.Settings.{Settings}
use Rattle.nms_lines.specs.Layout.{Record}
use Rattle.nms_lines.specs.PlanReading.{plan_in, said_by}
use Rattle.nms_lines.specs.Records.{AreAllRecords}
use Rattle.nms_lines.specs.Text.{record_text}
use Rattle.nms_rules.specs.Codes as breach_codes
use Rattle.nms_cert.specs.declared.doubt.Doubt.{Doubt}
use Rattle.nms_cert.specs.declared.doubt.Doubt.TheVariants as doubt
use Rattle.nms_file_answers.specs.Audit.{IsBest, IsFinding}
use Rattle.nms_files.specs.ChangeFile.{IsFileTape}
use Rattle.nms_file_answers.specs.declared.audit_fault.AuditFault.{AuditFault}
use Rattle.nms_file_answers.specs.declared.audit_fault.AuditFault.TheVariants as fault
use Rattle.nms_command.specs.declared.ending.Ending.{Ending}
use Rattle.nms_command.specs.declared.ending.Ending.TheVariants as ending

-- the finding of an audit on a plan: no doubt, or a fault
abbrev pub Finding : Type 0
Finding = Result (Unit {0}) AuditFault

-- the record of a doubt: DOUBT and K2 to K7, or DOUBT, K1 and the code of the breach, P1 to P12
abbrev pub doubt_record : Doubt → Record
doubt_record (doubt.Breach breach) = codes "DOUBT" ∷ codes "K1" ∷ breach_codes.code_of breach ∷ []
doubt_record doubt.NotMost = codes "DOUBT" ∷ codes "K2" ∷ []
doubt_record doubt.CutMissing = codes "DOUBT" ∷ codes "K3" ∷ []
doubt_record doubt.CutExtra = codes "DOUBT" ∷ codes "K4" ∷ []
doubt_record doubt.WrongKind = codes "DOUBT" ∷ codes "K5" ∷ []
doubt_record doubt.MarginalRange = codes "DOUBT" ∷ codes "K6" ∷ []
doubt_record (doubt.BoundFails cut) = codes "DOUBT" ∷ codes "K7" ∷ []

-- the line of a finding was written, and nothing else, and so it ends. No line reports out of memory
abbrev pub Tells : Finding → Option (List ℕ) → Option (List ℕ) → Ending → Type 0
Tells (Ok done) old new ends = (ends ≡ ending.Done) × Appends old new (record_text (codes "CONFIRMED" ∷ []))
Tells (Err fault.VersionBeyondTape) old new ends = (ends ≡ ending.NotConfirmed)
    × Appends old new (record_text (codes "DOUBT" ∷ codes "A1" ∷ []))
Tells (Err (fault.Doubt why)) old new ends = (ends ≡ ending.NotConfirmed) × Appends old new (record_text (doubt_record why))
Tells (Err fault.NoMemory) old new ends = ⊥

-- a plan was judged by its cuts on its own version of a tape, and the line of the finding was written, and nothing else. It
-- ends as done only if the plan is lawful there, no lawful one fills more, and none that fills as much costs less
pub record Judges (settings : Settings) (tape : Tape) (plan : Plan) (cuts : List Cut) (old new : Option (List ℕ)) (ends : Ending) : Type 0
  where
    pub finding : Finding
    pub found : IsFinding settings tape plan cuts finding
    pub told : Tells finding old new ends
    pub best : ends ≡ ending.Done → IsBest settings tape plan

-- a text says this plan with these cuts
abbrev pub Says : Listing → List ℕ → Plan → List Cut → Type 0
Says roster text plan cuts = (records : List Record) → AreAllRecords (Some text) records → plan_in roster records ≡ Some (said_by plan cuts)

-- the plan that a text says was judged on a tape
abbrev pub JudgesText : Settings → Tape → List ℕ → Option (List ℕ) → Option (List ℕ) → Ending → Type 0
JudgesText settings tape text old new ends = (plan : Plan) × (cuts : List Cut) × Says settings.roster text plan cuts
    × Judges settings tape plan cuts old new ends

-- the plan that a text says was judged on the tape of a file of changes
abbrev pub JudgesOnFile : Settings → Option (List ℕ) → List ℕ → Option (List ℕ) → Option (List ℕ) → Ending → Type 0
JudgesOnFile settings bytes text old new ends = (tape : Tape) × IsFileTape settings bytes tape × JudgesText settings tape text old new ends

-- as above for two files, whatever they hold
abbrev pub JudgesFiles : Settings → Option (List ℕ) → Option (List ℕ) → Ending → Type 0
JudgesFiles settings old new ends = (bytes : Option (List ℕ)) × (text : List ℕ) × JudgesOnFile settings bytes text old new ends
