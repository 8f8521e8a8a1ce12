-- `draw_day`: clause `refused` for an axis that is refused, whatever the plan is, and the page with a plan, by `day_page`.
use Rattle.std.proofs.Common.{◌≡◌, List, ℕ, Option, Some, ap, option_copied, subst, sym, ◌∙◌}
use Rattle.nms_quote.specs.Roster.{Listing}
use Rattle.nms_quote.specs.declared.plan.Plan.{Plan}
use Rattle.nms_lines.specs.PlanReading.{plan_in}
use Rattle.nms_verdicts.specs.declared.plan_report.Said.{Said}
use Rattle.nms_drawing.specs.Drawn.{IsGivenPlan, found_of, traded_of}
use Rattle.nms_drawing.proofs.DrawnFacts.{day_page}
use Rattle.nms_drawing.proofs.drawing.draw_day.Goals as goal

pub returns-in-Err-clause-refused : goal.returns-in-Err-clause-refused
returns-in-Err-clause-refused g c = c.in-Err.ensures.refused c.args.tape.now.roster.now (option_copied c.args.plan)

pub returns-clause-page : goal.returns-clause-page
returns-clause-page g c =
    let settings = c.args.tape.now.setup.now in
    let tape = c.args.tape.now.changes.items in
    let judged = option_copied c.args.judged in
    let given : Plan × Said = (c.in-Ok-read_plan.read.0, c.in-Ok-report_plan.said) in
    let own : IsGivenPlan settings tape (Some c.in-Some.text.now) (Some given) = record {
      cuts = c.in-Ok-read_plan.read.1.items;
      read = λ records all. ap (λ (roster : Listing). plan_in roster records) (sym c.args.tape.now.own)
          ∙ c.in-Ok-read_plan.ensures.read records all;
      ends = c.in-Ok-report_plan.ensures.ending;
      listed = c.in-Ok-report_plan.ensures.listed;
    } in
    day_page c.draw_on-2.result settings tape c.in-Ok.to c.args.frame.now c.args.sym (option_copied c.args.plan) (Some given)
    (traded_of judged) (found_of judged) (g.W.Write.contents c.args.answers.now) (g.W.Write.contents c.draw_on-2.new.answers)
    c.in-Ok.ensures.last
    (subst (λ (plan : Option (List ℕ)). IsGivenPlan settings tape plan (Some given)) (sym (ap option_copied c.in-Some.is)) own)
    (rw c.args.tape.now.own at c.draw_on-2.ensures.page)
