-- What a request had written when it failed, from the line that was cut short to the arguments that asked for it.
use Rattle.std.proofs.Common.{ℕ, ◌≡◌, List, inl, inr, refl, sym, subst}
use Rattle.std.specs.Prelude.{◌≢◌, Bool, true, false, Option, Some, Result, Ok, Err, IfErr}
use Rattle.std.specs.Io.KnownBytes.{Appends, append_known}
use Rattle.nms_fees.specs.Settings.{Settings}
use Rattle.nms_lines.specs.Written.{AppendsPart, WritesPart}
use Rattle.nms_lines.proofs.Offered.{appended}
use Rattle.nms_scripts.specs.Script.{AnswersBeginning, AnswersInPart}
use Rattle.nms_text.specs.declared.script_fault.ScriptFault.{ScriptFault}
use Rattle.nms_text.specs.declared.script_fault.ScriptFault.TheVariants as script_fault
use Rattle.nms_text.specs.declared.text_fault.TextFault.TheVariants as text_fault
use Rattle.nms_quote.specs.Terms.{Terms}
use Rattle.nms_file_answers.specs.PlanFile.{PlansFile}
use Rattle.nms_file_answers.specs.ReportFile.{ReportsFile, WritesNothing}
use Rattle.nms_file_answers.specs.declared.plan_fault.PlanFault.{PlanFault}
use Rattle.nms_file_answers.specs.declared.plan_fault.PlanFault.TheVariants as plan_fault
use Rattle.nms_file_answers.specs.declared.report_fault.ReportFault.{ReportFault}
use Rattle.nms_file_answers.specs.declared.report_fault.ReportFault.TheVariants as report_fault
use Rattle.nms_words.specs.CommandLine.{Asked, asked_by}
use Rattle.nms_words.specs.declared.subcommand.Sub.{Sub}
use Rattle.nms_words.specs.declared.subcommand.Sub.TheVariants as sub
use Rattle.nms_command.specs.Failed.{AreStopped, CutsShort, IsStopped, LeavesPart, Stops, StopsScript, is_write_fault}
use Rattle.nms_command.specs.LiveFiles.{IsNotGiven}
use Rattle.nms_command.specs.Served.{IsNoSetup, IsSetup, Plans, Serves, asked_order}
use Rattle.nms_command.specs.Steps.{AreMet, Meets}
use Rattle.nms_command.specs.Unread.{IsUnread}
use Rattle.nms_command.specs.declared.command_fault.CommandFault.{CommandFault}
use Rattle.nms_command.specs.declared.command_fault.CommandFault.TheVariants as fault
use Rattle.nms_command.specs.declared.ending.Ending.{Ending}
use Rattle.nms_command.specs.declared.ending.Ending.TheVariants as ending
use Rattle.nms_command.specs.declared.step.Step.TheVariants as step

-- a prefix of a text, of an answer that is this text
pub text_cut : (P : Option (List ℕ) → Ending → Type 0) (old new : Option (List ℕ)) (text : List ℕ) (ends : Ending)
    → ((whole : Option (List ℕ)) → Appends old whole text → P whole ends) → AppendsPart old new text
    → WritesPart (λ whole. (ends : Ending) × P whole ends) old new
text_cut P old new text ends answer cut =
    let whole = append_known old text in
    record { text = text; whole = whole; leaves = (ends, answer whole (appended old text)); meant = appended old text; cut = cut }

-- a prefix of one answer is one of an answer that follows from it
pub writing_more : (P Q : Option (List ℕ) → Type 0) (old new : Option (List ℕ)) → ((whole : Option (List ℕ)) → P whole → Q whole)
    → WritesPart P old new → WritesPart Q old new
writing_more P Q old new more cut =
    record { text = cut.text; whole = cut.whole; leaves = more cut.whole cut.leaves; meant = cut.meant; cut = cut.cut }

leaves_more : (P Q : Option (List ℕ) → Type 0) (old new : Option (List ℕ)) (failed : Bool) → ((whole : Option (List ℕ)) → P whole → Q whole)
    → LeavesPart P old new failed → LeavesPart Q old new failed
leaves_more P Q old new true more cut = writing_more P Q old new more cut
leaves_more P Q old new false more cut = cut

pub cut_more : (why : CommandFault) (P Q : Option (List ℕ) → Ending → Type 0) (old new : Option (List ℕ))
    → ((whole : Option (List ℕ)) (ends : Ending) → P whole ends → Q whole ends) → CutsShort P old new why → CutsShort Q old new why
cut_more why P Q old new more cut =
    leaves_more (λ whole. (ends : Ending) × P whole ends) (λ whole. (ends : Ending) × Q whole ends) old new (is_write_fault why)
    (λ whole answer. (answer.0, more whole answer.0 answer.1)) cut

pub cuts_more : {X : Type 0} (r : Result X CommandFault) (P Q : Option (List ℕ) → Ending → Type 0) (old new : Option (List ℕ))
    → ((whole : Option (List ℕ)) (ends : Ending) → P whole ends → Q whole ends)
    → IfErr r (CutsShort P old new) → IfErr r (CutsShort Q old new)
cuts_more (Ok x) P Q old new more cut = tt
cuts_more (Err why) P Q old new more cut = cut_more why P Q old new more cut

-- a fault that is not the writer's, and nothing written
not_begun : (why : CommandFault) (P : Option (List ℕ) → Ending → Type 0) (old new : Option (List ℕ)) → is_write_fault why ≡ false → new ≡ old
    → CutsShort P old new why
not_begun why P old new other kept =
    subst (λ failed. LeavesPart (λ whole. (ends : Ending) × P whole ends) old new failed) (sym other) kept

unread_other : (why : CommandFault) → IsUnread why → is_write_fault why ≡ false
unread_other why (inl is) = subst (λ fault. is_write_fault fault ≡ false) (sym is) refl
unread_other why (inr is) = subst (λ fault. is_write_fault fault ≡ false) (sym is) refl

-- nor is a live run's input given without it
pub unread_given : (settings : Settings) (files : ℕ) (why : CommandFault) → IsUnread why → IsNotGiven settings files why
unread_given settings files why (inl is) = subst (IsNotGiven settings files) (sym is) tt
unread_given settings files why (inr is) = subst (IsNotGiven settings files) (sym is) refl

-- a file that was not read
pub unread_cut : (why : CommandFault) (P : Option (List ℕ) → Ending → Type 0) (old new : Option (List ℕ)) → IsUnread why → new ≡ old
    → CutsShort P old new why
unread_cut why P old new unread kept = not_begun why P old new (unread_other why unread) kept

-- a report that was not written, or in part
pub report_cut : (why : ReportFault) (P : Option (List ℕ) → Ending → Type 0) (settings : Settings) (bytes old new : Option (List ℕ)) (sym : ℕ)
    (ends : Ending) → ((whole : Option (List ℕ)) → ReportsFile settings bytes sym old whole → P whole ends)
    → (why ≡ report_fault.WriteFault → WritesPart (ReportsFile settings bytes sym old) old new) → WritesNothing old new why
    → CutsShort P old new (fault.Report why)
report_cut (report_fault.Changes own) P settings bytes old new sym ends answer part kept = kept
report_cut (report_fault.Board own) P settings bytes old new sym ends answer part kept = kept
report_cut report_fault.NoMemory P settings bytes old new sym ends answer part kept = kept
report_cut report_fault.WriteFault P settings bytes old new sym ends answer part kept =
    writing_more (ReportsFile settings bytes sym old) (λ whole. (ends : Ending) × P whole ends) old new
    (λ whole reports. (ends, answer whole reports)) (part refl)

-- the plan that a request asks for was written, and so it ended
abbrev Planned : Settings → Asked → Option (List ℕ) → Option (List ℕ) → Ending → Type 0
Planned settings asked old new ends = (ends ≡ ending.Done) × Plans settings asked old new

-- a plan that was not written, or in part
pub plan_cut : (why : PlanFault) (settings : Settings) (asked : Asked) (bytes old new : Option (List ℕ)) (order : Terms)
    → asked_order settings asked ≡ Some order
    → (why ≡ plan_fault.Text text_fault.WriteFault → WritesPart (PlansFile settings bytes order old) old new)
    → (why ≢ plan_fault.Text text_fault.WriteFault → new ≡ old)
    → CutsShort (λ whole ends. (ends ≡ ending.Done) × Plans settings asked old whole) old new (fault.Plan why)
plan_cut (plan_fault.Changes own) settings asked bytes old new order is part kept = kept (λ is. absurd (cc is))
plan_cut (plan_fault.Board own) settings asked bytes old new order is part kept = kept (λ is. absurd (cc is))
plan_cut (plan_fault.Text text_fault.NoMemory) settings asked bytes old new order is part kept = kept (λ is. absurd (cc is))
plan_cut (plan_fault.Text text_fault.WriteFault) settings asked bytes old new order is part kept =
    writing_more (PlansFile settings bytes order old) (λ whole. (ends : Ending) × Planned settings asked old whole ends) old new
    (λ whole plans. (ending.Done, (refl, (bytes, order, is, plans)))) (part refl)

-- a script that stopped
pub script_stopped : (why : ScriptFault) (settings : Settings) (input old new : Option (List ℕ))
    → (why ≢ script_fault.WriteFault → AnswersBeginning settings input old new why)
    → (why ≡ script_fault.WriteFault → AnswersInPart settings input old new)
    → StopsScript settings input old new (fault.Script why)
script_stopped script_fault.ReadFault settings input old new stopped cut = stopped (λ is. absurd (cc is))
script_stopped script_fault.WriteFault settings input old new stopped cut = cut refl
script_stopped script_fault.TooLong settings input old new stopped cut = stopped (λ is. absurd (cc is))
script_stopped script_fault.NoMemory settings input old new stopped cut = stopped (λ is. absurd (cc is))

-- no setup was read, or no file of a live run, and nothing was written
no_setup_other : (why : CommandFault) → IsNoSetup why → is_write_fault why ≡ false
no_setup_other (fault.Setup own) refused = refl
no_setup_other fault.Unreadable refused = refl
no_setup_other (fault.Script own) is = subst (λ own. is_write_fault (fault.Script own) ≡ false) (sym is) refl
no_setup_other (fault.Words own) refused = absurd refused
no_setup_other fault.Usage refused = absurd refused
no_setup_other (fault.Report own) refused = absurd refused
no_setup_other (fault.Changes own) refused = absurd refused
no_setup_other (fault.Plan own) refused = absurd refused
no_setup_other (fault.PlanText own) refused = absurd refused
no_setup_other fault.NoAudit refused = absurd refused
no_setup_other (fault.Feed own) refused = absurd refused
no_setup_other (fault.Orders own) refused = absurd refused

not_given_other : (why : CommandFault) (settings : Settings) (files : ℕ) → IsNotGiven settings files why → is_write_fault why ≡ false
not_given_other fault.Usage settings files refused = refl
not_given_other (fault.Orders own) settings files refused = refl
not_given_other (fault.Feed own) settings files refused = refl
not_given_other fault.Unreadable settings files refused = refl
not_given_other (fault.Script own) settings files is = subst (λ own. is_write_fault (fault.Script own) ≡ false) (sym is) refl
not_given_other (fault.Words own) settings files refused = absurd refused
not_given_other (fault.Setup own) settings files refused = absurd refused
not_given_other (fault.Report own) settings files refused = absurd refused
not_given_other (fault.Changes own) settings files refused = absurd refused
not_given_other (fault.Plan own) settings files refused = absurd refused
not_given_other (fault.PlanText own) settings files refused = absurd refused
not_given_other fault.NoAudit settings files refused = absurd refused

pub no_setup_stopped : (why : CommandFault) (asked : Asked) (input old new : Option (List ℕ)) → IsNoSetup why → new ≡ old
    → IsStopped asked input old new why
no_setup_stopped why asked input old new refused kept =
    inl (not_begun why (λ whole ends. Meets asked input old whole (step.Ended ends)) old new (no_setup_other why refused) kept)

pub not_given_stopped : (why : CommandFault) (asked : Asked) (settings : Settings) (files : ℕ) (input old new : Option (List ℕ))
    → IsNotGiven settings files why → new ≡ old → IsStopped asked input old new why
not_given_stopped why asked settings files input old new refused kept =
    inl (not_begun why (λ whole ends. Meets asked input old whole (step.Ended ends)) old new (not_given_other why settings files refused) kept)

-- a prefix of the answer to a request under a setup
request_cut : (command : Sub) (why : CommandFault) (asked : Asked) (settings : Settings) (input old new : Option (List ℕ))
    → asked.command ≡ command → IsSetup settings → CutsShort (Serves command settings asked input old) old new why
    → CutsShort (λ whole ends. Meets asked input old whole (step.Ended ends)) old new why
request_cut command why asked settings input old new is said cut =
    cut_more why (Serves command settings asked input old) (λ whole ends. Meets asked input old whole (step.Ended ends)) old new
    (λ whole ends serves. (settings, said, subst (λ command. Serves command settings asked input old whole ends) (sym is) serves)) cut

-- a request that was served under a setup, and failed
pub stopped_by : (command : Sub) (why : CommandFault) (asked : Asked) (settings : Settings) (input old new : Option (List ℕ))
    → asked.command ≡ command → IsSetup settings → command ≢ sub.Live → Stops command settings asked input old new why
    → IsStopped asked input old new why
stopped_by sub.Script why asked settings input old new is said apart stops = inr (settings, said, is, stops)
stopped_by sub.Report why asked settings input old new is said apart stops =
    inl (request_cut sub.Report why asked settings input old new is said stops)
stopped_by sub.Plan why asked settings input old new is said apart stops =
    inl (request_cut sub.Plan why asked settings input old new is said stops)
stopped_by sub.Check why asked settings input old new is said apart stops =
    inl (request_cut sub.Check why asked settings input old new is said stops)
stopped_by sub.Live why asked settings input old new is said apart stops = absurd (apart refl)

-- what the arguments ask for, and failed
asked_stopped : (why : CommandFault) (words : List (List ℕ)) (asked : Asked) (input old new : Option (List ℕ))
    → asked_by words ≡ Some asked → IsStopped asked input old new why → AreStopped words input old new why
asked_stopped why words asked input old new is (inl cut) =
    inl (cut_more why (λ whole ends. Meets asked input old whole (step.Ended ends)) (λ whole ends. AreMet words input old whole (step.Ended ends))
    old new (λ whole ends meets. inl (asked, is, meets)) cut)
asked_stopped why words asked input old new is (inr script) = inr (asked, is, script)

pub words_stopped : {X : Type 0} (r : Result X CommandFault) (words : List (List ℕ)) (asked : Asked) (input old new : Option (List ℕ))
    → asked_by words ≡ Some asked → IfErr r (IsStopped asked input old new) → IfErr r (AreStopped words input old new)
words_stopped (Ok x) words asked input old new is stopped = tt
words_stopped (Err why) words asked input old new is stopped = asked_stopped why words asked input old new is stopped
