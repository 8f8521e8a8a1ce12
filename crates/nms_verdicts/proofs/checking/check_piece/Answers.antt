-- `check_piece`: the outcome is that of the plan that the text says.
use Rattle.nms_verdicts.proofs.CheckFacts.{outcome_read}
use Rattle.nms_verdicts.proofs.checking.check_piece.Goals as goal

pub returns-in-Ok-clause-outcome : goal.returns-in-Ok-clause-outcome
returns-in-Ok-clause-outcome g c =
    let tape = c.args.replay.now.tape.now in
    outcome_read tape.setup.now tape.changes.items c.args.text.now tape.roster.now c.in-Ok.plan c.in-Ok.certificate.items
    c.check_plan.result tape.own (λ records all. c.in-Ok.ensures.read records all) c.check_plan.ensures.outcome
