-- `judge_plan`: all that it promises, by `judged` and `judged_cut`.
use Rattle.nms_command.proofs.CheckFacts.{judged, judged_cut}
use Rattle.nms_command.proofs.check.judge_plan.Goals as goal

pub returns-clause-judged : goal.returns-clause-judged
returns-clause-judged g c =
    judged c.tell_finding.result c.args.setup.now c.args.changes.now c.args.plan.now c.args.certificate.now.items c.audit-finding.result
    (g.W.Write.contents c.args.answers.now) (g.W.Write.contents c.tell_finding.new.answers) c.audit-finding.ensures.found
    c.audit-finding.ensures.best c.tell_finding.ensures.told

pub returns-clause-cut : goal.returns-clause-cut
returns-clause-cut g c =
    judged_cut c.tell_finding.result c.args.setup.now c.args.changes.now c.args.plan.now c.args.certificate.now.items c.audit-finding.result
    (g.W.Write.contents c.args.answers.now) (g.W.Write.contents c.tell_finding.new.answers) c.audit-finding.ensures.found
    c.audit-finding.ensures.best c.tell_finding.ensures.cut
