-- `judge`: all that it promises, by `on_text` and `cuts_more`.
use Rattle.std.proofs.Common.{arith}
use Rattle.std.proofs.lemmas.Grind.{common_steps}
use Rattle.nms_command.proofs.CheckFacts.{on_text}
use Rattle.nms_command.proofs.FailedFacts.{cuts_more}
use Rattle.nms_command.specs.Check.{Judges, JudgesText}
use Rattle.nms_command.proofs.check.judge.Goals as goal

pub returns-in-Ok-clause-judged : goal.returns-in-Ok-clause-judged
returns-in-Ok-clause-judged g c =
    let read = c.in-Ok.ensures.read in
    on_text c.judge_plan.result c.args.setup.now c.args.changes.now c.args.text.now c.in-Ok.plan c.in-Ok.certificate.items
    (g.W.Write.contents c.args.answers.now) (g.W.Write.contents c.judge_plan.new.answers) (rw c.roster.ensures at read)
    c.judge_plan.ensures.judged

pub returns-in-Ok-clause-cut : goal.returns-in-Ok-clause-cut
returns-in-Ok-clause-cut g c =
    let old = g.W.Write.contents c.args.answers.now in
    let read = c.in-Ok.ensures.read in
    cuts_more c.judge_plan.result (Judges c.args.setup.now c.args.changes.now c.in-Ok.plan c.in-Ok.certificate.items old)
    (JudgesText c.args.setup.now c.args.changes.now c.args.text.now old) old (g.W.Write.contents c.judge_plan.new.answers)
    (λ whole ends judges. (c.in-Ok.plan, c.in-Ok.certificate.items, rw c.roster.ensures at read, judges)) c.judge_plan.ensures.cut

-- ---- goals that `grind` closes; the search that is tried before it takes longer

pub judge_plan-requires-clause-sym : goal.judge_plan-requires-clause-sym
judge_plan-requires-clause-sym g c = grind (arith, common_steps)
