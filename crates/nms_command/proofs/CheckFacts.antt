-- What the ending of `check` says about the finding that was reported.
use Rattle.std.proofs.Common.{ℕ, ◌≡◌, ◌++◌, ◌∷◌, [], List, refl}
use Rattle.std.specs.Prelude.{Option, Result, Ok, Err, IfErr, IfOk, OnOk, codes}
use Rattle.nms_quote.specs.Tape.{Tape}
use Rattle.nms_quote.specs.declared.certificate.Cut.{Cut}
use Rattle.nms_quote.specs.declared.plan.Plan.{Plan}
use Rattle.nms_fees.specs.Settings.{Settings}
use Rattle.nms_lines.specs.Text.{record_text}
use Rattle.nms_cert.specs.Codes as doubt_codes
use Rattle.nms_cert.specs.declared.doubt.Doubt.{Doubt}
use Rattle.nms_cert.specs.declared.doubt.Doubt.TheVariants as doubt
use Rattle.nms_rules.specs.declared.breach_kind.Breach.{Breach}
use Rattle.nms_file_answers.specs.Audit.{IsBest, IsFinding}
use Rattle.nms_files.specs.ChangeFile.{IsFileTape}
use Rattle.nms_file_answers.specs.declared.audit_fault.AuditFault.TheVariants as fault
use Rattle.nms_command.specs.Failed.{CutsShort}
use Rattle.nms_command.proofs.FailedFacts.{cuts_more}
use Rattle.nms_command.specs.Check.{Finding, Judges, JudgesFiles, JudgesOnFile, JudgesText, Says, Tells, doubt_record}
use Rattle.nms_command.specs.declared.ending.Ending.{Ending}
use Rattle.nms_command.specs.declared.ending.Ending.TheVariants as ending
use Rattle.nms_command.specs.declared.command_fault.CommandFault.{CommandFault}

-- only a finding of nothing is reported as done
best_of : (finding : Finding) (Best : Type 0) (old new : Option (List ℕ)) (ends : Ending) → OnOk finding Best → Tells finding old new ends
    → ends ≡ ending.Done → Best
best_of (Ok done) Best old new ends best told is = best
best_of (Err fault.VersionBeyondTape) Best old new ends best told is = absurd (cc (told.0, is))
best_of (Err (fault.Doubt why)) Best old new ends best told is = absurd (cc (told.0, is))
best_of (Err fault.NoMemory) Best old new ends best told is = absurd told

-- a judgement whose line was written
told_by : (settings : Settings) (tape : Tape) (plan : Plan) (cuts : List Cut) (finding : Finding) (old new : Option (List ℕ)) (ends : Ending)
    → IsFinding settings tape plan cuts finding → OnOk finding (IsBest settings tape plan) → Tells finding old new ends
    → Judges settings tape plan cuts old new ends
told_by settings tape plan cuts finding old new ends found best told =
    record { finding = finding; found = found; told = told; best = best_of finding (IsBest settings tape plan) old new ends best told }

-- a finding that was reported
pub judged : (r : Result Ending CommandFault) (settings : Settings) (tape : Tape) (plan : Plan) (cuts : List Cut) (finding : Finding)
    (old new : Option (List ℕ))
    → IsFinding settings tape plan cuts finding → OnOk finding (IsBest settings tape plan) → IfOk r (Tells finding old new)
    → IfOk r (Judges settings tape plan cuts old new)
judged (Ok ends) settings tape plan cuts finding old new found best told =
    told_by settings tape plan cuts finding old new ends found best told
judged (Err why) settings tape plan cuts finding old new found best told = tt

-- the same of a line that was cut short
pub judged_cut : (r : Result Ending CommandFault) (settings : Settings) (tape : Tape) (plan : Plan) (cuts : List Cut) (finding : Finding)
    (old new : Option (List ℕ))
    → IsFinding settings tape plan cuts finding → OnOk finding (IsBest settings tape plan) → IfErr r (CutsShort (Tells finding old) old new)
    → IfErr r (CutsShort (Judges settings tape plan cuts old) old new)
judged_cut r settings tape plan cuts finding old new found best cut =
    cuts_more r (Tells finding old) (Judges settings tape plan cuts old) old new
    (λ whole ends told. told_by settings tape plan cuts finding old whole ends found best told) cut

-- a doubt that is no breach is reported by its own code
pub other_line : (why : Doubt) → ((breach : Breach) → why ≡ doubt.Breach breach → ⊥)
    → codes "DOUBT," ++ (doubt_codes.code_of why ++ 10 ∷ []) ≡ record_text (doubt_record why)
other_line (doubt.Breach breach) other = absurd (other breach refl)
other_line doubt.NotMost other = refl
other_line doubt.CutMissing other = refl
other_line doubt.CutExtra other = refl
other_line doubt.WrongKind other = refl
other_line doubt.MarginalRange other = refl
other_line (doubt.BoundFails cut) other = refl

-- a plan that was judged, as a text says it, and on the tape of a file
pub on_text : (r : Result Ending CommandFault) (settings : Settings) (tape : Tape) (text : List ℕ) (plan : Plan) (cuts : List Cut)
    (old new : Option (List ℕ))
    → Says settings.roster text plan cuts → IfOk r (Judges settings tape plan cuts old new) → IfOk r (JudgesText settings tape text old new)
on_text (Ok ends) settings tape text plan cuts old new says judges = (plan, cuts, says, judges)
on_text (Err why) settings tape text plan cuts old new says judges = tt

pub on_file : (r : Result Ending CommandFault) (settings : Settings) (bytes : Option (List ℕ)) (tape : Tape) (text : List ℕ)
    (old new : Option (List ℕ))
    → IsFileTape settings bytes tape → IfOk r (JudgesText settings tape text old new) → IfOk r (JudgesOnFile settings bytes text old new)
on_file (Ok ends) settings bytes tape text old new file judges = (tape, file, judges)
on_file (Err why) settings bytes tape text old new file judges = tt

pub on_files : (r : Result Ending CommandFault) (settings : Settings) (bytes : Option (List ℕ)) (text : List ℕ) (old new : Option (List ℕ))
    → IfOk r (JudgesOnFile settings bytes text old new) → IfOk r (JudgesFiles settings old new)
on_files (Ok ends) settings bytes text old new judges = (bytes, text, judges)
on_files (Err why) settings bytes text old new judges = tt
