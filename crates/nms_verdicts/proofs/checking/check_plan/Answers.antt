-- `check_plan`: the outcome is that of the verdict.
use Rattle.nms_verdicts.proofs.CheckFacts.{outcome_by}
use Rattle.nms_verdicts.proofs.checking.check_plan.Goals as goal

pub returns-in-Ok-clause-outcome : goal.returns-in-Ok-clause-outcome
returns-in-Ok-clause-outcome g c =
    let tape = c.args.replay.now.tape.now in
    outcome_by tape.setup.now tape.changes.items c.args.plan.now c.args.certificate.now.items c.judge-verdict.result c.outcome_of.result
    c.outcome_of.ensures c.judge-verdict.ensures.judged
