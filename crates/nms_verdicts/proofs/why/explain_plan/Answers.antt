-- `explain_plan`: the request ends by the verdict.
use Rattle.nms_verdicts.proofs.EndingFacts.{ends_by}
use Rattle.nms_verdicts.proofs.why.explain_plan.Goals as goal

pub returns-in-Ok : goal.returns-in-Ok
returns-in-Ok g c =
    let tape = c.args.tape.now in
    ends_by tape.setup.now tape.changes.items c.args.plan.now c.args.certificate.now.items c.judge-verdict.result c.ending.result
    c.ending.ensures (rw c.in_ok-replay.ensures.tape at c.judge-verdict.ensures.judged)
