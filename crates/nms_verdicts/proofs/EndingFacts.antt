-- A verdict, and how a request ends by it.
use Rattle.std.proofs.Common.{ℕ, ◌≡◌, ◌≤◌, ◌∙◌, List, ap, inl, inr, length, sym, subst}
use Rattle.nms_quote.specs.Roster.{Listing, sizes_of}
use Rattle.nms_quote.specs.Tape.{Tape, version}
use Rattle.nms_quote.specs.declared.certificate.Cut.{Cut}
use Rattle.nms_quote.specs.declared.plan.Plan.{Plan}
use Rattle.nms_board.specs.View.{Seen, view_of}
use Rattle.nms_fees.specs.Settings.{Settings}
use Rattle.nms_file_answers.specs.Audit.{seen_by}
use Rattle.nms_show.specs.declared.ending.Ending.{Ending}
use Rattle.nms_verdicts.specs.Explained.{EndsBy, ending_of}
use Rattle.nms_verdicts.specs.Verdicts.{IsVerdict, IsVerdictOn}
use Rattle.nms_verdicts.specs.declared.verdict.Verdict.{Verdict}
use Rattle.nms_verdicts.specs.declared.verdict.Verdict.TheVariants as verdict

-- what a board of a tape shows at a plan's version is what the audit sees; the code has the plan inside a reference
pub shown_there : (settings : Settings) (roster : Listing) (tape : Tape) {inside plan : Plan} (n : ℕ) (seen : Seen) → inside ≡ plan
    → roster ≡ settings.roster → n ≡ plan.version → seen ≡ view_of (sizes_of roster) (version n tape) inside.order.sym
    → seen ≡ seen_by settings tape plan
shown_there settings roster tape {inside = inside} {plan = plan} n seen same own at shows =
    shows ∙ ap (λ (list : Listing). view_of (sizes_of list) (version n tape) inside.order.sym) own
    ∙ ap (λ (k : ℕ). view_of (sizes_of settings.roster) (version k tape) inside.order.sym) at
    ∙ ap (λ (p : Plan). view_of (sizes_of settings.roster) (version plan.version tape) p.order.sym) same

-- a verdict on what the audit sees is one on the plan's version
pub judged_on : (settings : Settings) (tape : Tape) (plan : Plan) (cuts : List Cut) (judged : Verdict) → plan.version ≤ length tape
    → IsVerdictOn (seen_by settings tape plan) settings.fees plan cuts judged → IsVerdict settings tape plan cuts judged
judged_on settings tape plan cuts verdict.Confirmed within is = (within, is)
judged_on settings tape plan cuts (verdict.Beyond changes) within is = absurd is
judged_on settings tape plan cuts (verdict.Doubted doubt place) within is = (within, is)

-- the ending of a verdict says what the audit finds
ends_so : (settings : Settings) (tape : Tape) (plan : Plan) (cuts : List Cut) (judged : Verdict)
    → IsVerdict settings tape plan cuts judged → EndsBy settings tape plan cuts (ending_of judged)
ends_so settings tape plan cuts verdict.Confirmed is = is
ends_so settings tape plan cuts (verdict.Beyond changes) is = inl is.0
ends_so settings tape plan cuts (verdict.Doubted doubt place) is = inr (is.0, (doubt, is.1.0))

-- as above, for a value equal to that ending
pub ends_by : (settings : Settings) (tape : Tape) (plan : Plan) (cuts : List Cut) (judged : Verdict) (ended : Ending)
    → ended ≡ ending_of judged → IsVerdict settings tape plan cuts judged → EndsBy settings tape plan cuts ended
ends_by settings tape plan cuts judged ended e is =
    subst (λ it. EndsBy settings tape plan cuts it) (sym e) (ends_so settings tape plan cuts judged is)
