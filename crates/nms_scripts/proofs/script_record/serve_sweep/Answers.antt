-- `serve_sweep`: all that it promises, by `shows_plan`.
use Rattle.std.proofs.Common.{arith, ℕ, ◌≡◌, ◌++◌, ◌∙◌, List, ap, subst}
use Rattle.std.proofs.lemmas.Grind.{common_steps}
use Rattle.nms_quote.specs.Terms.{Terms}
use Rattle.nms_quote.specs.Roster.{Listing}
use Rattle.nms_quote.specs.declared.certificate.Cut.{Cut}
use Rattle.nms_quote.specs.declared.plan.Plan.{Plan}
use Rattle.nms_board.specs.Cells.{Board}
use Rattle.nms_board.specs.Shown.{seen_on}
use Rattle.nms_board.specs.View.{Seen}
use Rattle.nms_lines.specs.PlanText.{plan_records}
use Rattle.nms_lines.specs.Text.{text_of}
use Rattle.nms_fee_book.specs.Fees.{Charges}
use Rattle.nms_rules.specs.Accepted.{IsAccepted}
use Rattle.nms_scripts.proofs.ScriptFacts.{shows_plan}
use Rattle.nms_scripts.proofs.script_record.serve_sweep.Goals as goal

pub returns : goal.returns
returns c =
    let order : Terms = c.args.order.now in
    let board : Board = c.args.flow.now.board in
    let seen : Seen = seen_on board order.sym in
    let plan : Plan = c.plan_on.new.self.plan in
    let cuts : List Cut = c.plan_on.new.self.cuts in
    let accepted : IsAccepted seen order c.args.setup.now.fees plan cuts =
    subst (λ (fees : Charges). IsAccepted seen order fees plan cuts) c.fees.ensures.value
    (subst (λ (one : Board). IsAccepted (seen_on one order.sym) order c.fees.result.now plan cuts) c.board.ensures.board
    c.plan_on.ensures.accepted) in
    let roster : Listing = c.roster.result.now in
    let before : List ℕ = c.args.out.now.items in
    let text : c.append_plan.new.out.items ≡ before ++ text_of (plan_records roster plan cuts) =
    c.in_ok-append_plan.ensures
    ∙ ap (λ (one : Plan). before ++ text_of (plan_records roster one c.certificate.result.now.items)) c.plan.ensures
    ∙ ap (λ (some : List Cut). before ++ text_of (plan_records roster plan some)) c.certificate.ensures in
    shows_plan c.args.setup.now c.args.flow.now c.args.flow.now c.args.desk order seen plan cuts before
    c.append_plan.new.out.items (c.board.ensures.went c.args.desk order.sym) accepted
    (subst (λ (one : Listing). c.append_plan.new.out.items ≡ before ++ text_of (plan_records one plan cuts)) c.roster.ensures text)

-- ---- goals that `grind` closes; the search that is tried before it takes longer

pub plan_on-requires : goal.plan_on-requires
plan_on-requires c = grind (arith, common_steps)
