-- `explain_plan`: clause `ending`, by the reader that is opened over the text.
use Rattle.std.proofs.Common.{Some, subst}
use Rattle.std.specs.Prelude.{IfOk}
use Rattle.nms_quote.specs.Roster.{Listing}
use Rattle.nms_explain.specs.Planned.{EndsAsPlan}
use Rattle.nms_explain.proofs.plan_text.explain_plan.Goals as goal

pub returns-clause-ending : goal.returns-clause-ending
returns-clause-ending g c =
    subst (λ (it : Listing). IfOk c.explain_text.result (EndsAsPlan it (Some c.args.text.now))) c.roster.ensures
    (c.explain_text.ensures.ending (Some c.args.text.now) c.open_source-reader.ensures)
