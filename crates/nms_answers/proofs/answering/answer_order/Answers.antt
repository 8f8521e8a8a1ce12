-- `answer_order`: clause `told`, by `tells_plan`.
use Rattle.std.proofs.Common.{◌≡◌, ◌++◌, ap, subst, ◌∙◌}
use Rattle.nms_quote.specs.Roster.{Listing}
use Rattle.nms_quote.specs.Terms.{Terms}
use Rattle.nms_board.specs.View.{view_of}
use Rattle.nms_fee_book.specs.Fees.{Charges}
use Rattle.nms_lines.specs.PlanText.{plan_records}
use Rattle.nms_lines.specs.Text.{text_of}
use Rattle.nms_rules.specs.Accepted.{IsAccepted}
use Rattle.nms_answers.proofs.AnswerFacts.{tells_plan}
use Rattle.nms_answers.proofs.answering.answer_order.Goals as goal

pub returns-in-Ok-clause-told : goal.returns-in-Ok-clause-told
returns-in-Ok-clause-told c =
    let view = c.in_ok-view.view in
    let seen = c.in_ok-view.ensures.seen in
    let before = c.args.out.now.items in
    let after = c.append_plan.new.out.items in
    let plan = c.plan-plan.result.0 in
    let cuts = c.plan-plan.result.1.items in
    tells_plan c.args.setup.now c.args.desk.now c.look.new.desk c.args.number c.args.order.now seen.0 view plan cuts before after
    c.requires.sizes (seen.2 ∙ ap (λ (t : Terms). view_of c.args.desk.now.sizes seen.0 t.sym) c.order.view_is) seen.1
    (subst (λ (fees : Charges). IsAccepted view c.args.order.now fees plan cuts) c.fees.ensures.value c.plan-plan.ensures.accepted)
    (subst (λ (r : Listing). after ≡ before ++ text_of (plan_records r plan cuts)) c.roster.ensures c.in-Ok.ensures)
