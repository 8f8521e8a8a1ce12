-- `report_plan`: the report ends by the verdict, and lists what the plan's version shows.
use Rattle.nms_verdicts.proofs.EndingFacts.{ends_by, shown_there}
use Rattle.nms_verdicts.proofs.ListedLemmas.{are_listed}
use Rattle.nms_verdicts.proofs.plan_report.report_plan.Goals as goal

pub returns-in-Ok-clause-ending : goal.returns-in-Ok-clause-ending
returns-in-Ok-clause-ending c =
    let tape = c.args.tape.now in
    ends_by tape.setup.now tape.changes.items c.args.plan.now c.args.certificate.now.items c.judge-verdict.result c.in-Ok.said.ending
    c.in-Ok.ensures.ending (rw c.in_ok-replay.ensures.tape at c.judge-verdict.ensures.judged)

pub returns-in-Ok-clause-listed : goal.returns-in-Ok-clause-listed
returns-in-Ok-clause-listed c =
    let tape = c.args.tape.now in
    let judged = c.judge-verdict.ensures in
    let replay = c.judge-verdict.new.replay in
    let moved = replay.tape.now in
    let same = c.in_ok-replay.ensures.tape in
    are_listed tape.setup.now tape.changes.items c.args.plan.now c.args.certificate.now.items c.judge-verdict.result c.view-view.result
    c.in-Ok.said (rw same at judged.judged)
    (λ kept. rw (← same, ← judged.tape)
    (shown_there moved.setup.now moved.roster.now moved.changes.items replay.board.applied c.view-view.result c.plan.view_is moved.own
    (judged.moved kept) c.view-view.ensures))
    c.in-Ok.ensures.beyond c.in-Ok.ensures.listed
