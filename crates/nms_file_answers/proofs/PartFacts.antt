-- What was written of a report or of a plan if the writer failed.
use Rattle.std.proofs.Common.{ℕ, ◌≡◌, List, Option, subst}
use Rattle.std.specs.Io.KnownBytes.{append_known}
use Rattle.nms_quote.specs.Roster.{Listing, sizes_of}
use Rattle.nms_quote.specs.Tape.{Tape}
use Rattle.nms_quote.specs.Terms.{Terms}
use Rattle.nms_quote.specs.declared.certificate.Cut.{Cut}
use Rattle.nms_quote.specs.declared.plan.Plan.{Plan}
use Rattle.nms_board.specs.View.{Seen, view_of}
use Rattle.nms_fee_book.specs.Fees.{Charges}
use Rattle.nms_fees.specs.Settings.{Settings}
use Rattle.nms_lines.specs.PlanText.{plan_text}
use Rattle.nms_lines.specs.Written.{AppendsPart, WritesPart}
use Rattle.nms_lines.proofs.Offered.{appended}
use Rattle.nms_rules.specs.Accepted.{IsAccepted}
use Rattle.nms_rules.specs.Assignment.{IsOptimal}
use Rattle.nms_rules.specs.Faultless.{given_by}
use Rattle.nms_rules.specs.Usable.{usable}
use Rattle.nms_text.specs.Report.{IsReport}
use Rattle.nms_files.specs.ChangeFile.{IsFileTape}
use Rattle.nms_file_answers.specs.ReportFile.{ReportsFile}
use Rattle.nms_file_answers.specs.PlanFile.{PlansOn}

-- a prefix of the report
pub report_cut : (settings : Settings) (bytes old new : Option (List ℕ)) (sym : ℕ) (seen : Seen) (roster : Listing)
    → (tape : Tape) × IsFileTape settings bytes tape × (seen ≡ view_of (sizes_of settings.roster) tape sym) → roster ≡ settings.roster
    → (text : List ℕ) × IsReport roster seen text × AppendsPart old new text → WritesPart (ReportsFile settings bytes sym old) old new
report_cut settings bytes old new sym seen roster (tape, file, is_seen) same_roster (text, report, cut) =
    record {
      text = text;
      whole = append_known old text;
      leaves = record {
        tape = tape;
        file = file;
        text = text;
        report = subst (λ (r : Listing). IsReport r (view_of (sizes_of settings.roster) tape sym) text) same_roster
            (subst (λ (s : Seen). IsReport roster s text) is_seen report);
        written = appended old text;
      };
      meant = appended old text;
      cut = cut;
    }

-- a prefix of a plan and its certificate
pub plan_cut : (settings : Settings) (seen : Seen) (order : Terms) (old new : Option (List ℕ)) (plan : Plan) (cuts : List Cut)
    (fees : Charges) (roster : Listing) → fees ≡ settings.fees → roster ≡ settings.roster
    → IsAccepted seen order fees plan cuts → IsOptimal (usable seen order fees) order.shares (given_by plan.legs.items)
    → AppendsPart old new (plan_text roster plan cuts) → WritesPart (PlansOn settings seen order old) old new
plan_cut settings seen order old new plan cuts fees roster same_fees same_roster accepted optimal cut =
    let text = plan_text settings.roster plan cuts in
    record {
      text = text;
      whole = append_known old text;
      leaves = record {
        plan = plan;
        cuts = cuts;
        accepted = subst (λ (f : Charges). IsAccepted seen order f plan cuts) same_fees accepted;
        optimal = subst (λ (f : Charges). IsOptimal (usable seen order f) order.shares (given_by plan.legs.items)) same_fees optimal;
        written = appended old text;
      };
      meant = appended old text;
      cut = subst (λ (r : Listing). AppendsPart old new (plan_text r plan cuts)) same_roster cut;
    }
