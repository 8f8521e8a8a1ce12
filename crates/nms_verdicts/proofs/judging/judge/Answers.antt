-- `judge`: the verdict is on what the board shows, which is at the plan's version.
use Rattle.std.proofs.Common.{◌∙◌, ap, arith}
use Rattle.nms_quote.specs.declared.plan.Plan.{Plan}
use Rattle.nms_verdicts.proofs.EndingFacts.{judged_on, shown_there}
use Rattle.nms_verdicts.proofs.judging.judge.Goals as goal

pub returns-clause-judged : goal.returns-clause-judged
returns-clause-judged c =
    let replay = c.move_to.new.self in
    let tape = replay.tape.now in
    let plan = c.args.plan.now in
    let at = c.move_to.ensures.moved ∙ ap (λ (p : Plan). p.version) c.plan.view_is in
    let shown = shown_there tape.setup.now tape.roster.now tape.changes.items replay.board.applied c.view-view.result c.plan.view_is
    tape.own at c.view-view.ensures in
    rw (← c.move_to.ensures.tape)
    (judged_on tape.setup.now tape.changes.items plan c.args.certificate.now.items c.judge_on.result
    (omega (arith, replay.at.within, at)) (rw (shown, c.fees.ensures.value) at c.judge_on.ensures))
