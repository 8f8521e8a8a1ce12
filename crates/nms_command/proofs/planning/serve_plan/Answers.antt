-- `serve_plan`: the plan of the order, or what is left of it.
use Rattle.std.proofs.Common.{arith, ◌≡◌, refl}
use Rattle.std.proofs.lemmas.Grind.{common_steps}
use Rattle.nms_words.specs.CommandLine.{shown}
use Rattle.nms_command.specs.Served.{Plans}
use Rattle.nms_command.specs.declared.ending.Ending.TheVariants as ending
use Rattle.nms_command.proofs.FailedFacts.{plan_cut, unread_cut}
use Rattle.nms_command.proofs.planning.serve_plan.Goals as goal

pub returns-in-Err-clause-cut : goal.returns-in-Err-clause-cut
returns-in-Err-clause-cut g c =
    let old = g.W.Write.contents c.args.answers.now in
    unread_cut c.in-Err.fault (λ whole ends. (ends ≡ ending.Done) × Plans c.args.setup.now (shown c.args.request.now) old whole)
    old old c.in-Err.ensures.refused refl

pub returns-in-Ok-plan_changes-clause-served : goal.returns-in-Ok-plan_changes-clause-served
returns-in-Ok-plan_changes-clause-served g c =
    (refl, (_, c.in-Some.order, c.in-Some.ensures.asked, c.in-Ok-plan_changes.ensures.written))

pub returns-in-Err-plan_changes-clause-cut : goal.returns-in-Err-plan_changes-clause-cut
returns-in-Err-plan_changes-clause-cut g c =
    plan_cut c.in-Err-plan_changes.fault c.args.setup.now (shown c.args.request.now) _ (g.W.Write.contents c.args.answers.now)
    (g.W.Write.contents c.plan_changes.new.writer) c.in-Some.order c.in-Some.ensures.asked c.in-Err-plan_changes.ensures.cut
    c.in-Err-plan_changes.ensures.unwritten

-- ---- goals that `grind` closes; the search that is tried before it takes longer

pub plan_changes-requires-clause-self_help : goal.plan_changes-requires-clause-self_help
plan_changes-requires-clause-self_help g c = grind (arith, common_steps)

pub plan_changes-requires-clause-sym : goal.plan_changes-requires-clause-sym
plan_changes-requires-clause-sym g c = grind (arith, common_steps)

pub returns-in_default-first-clause-cut : goal.returns-in_default-first-clause-cut
returns-in_default-first-clause-cut g c = grind (arith, common_steps)
