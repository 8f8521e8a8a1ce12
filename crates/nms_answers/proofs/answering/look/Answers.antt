-- `look`: clauses `seen` and `knows`.
use Rattle.nms_answers.proofs.KnownFacts.{keeps_itself, keeps_looking}
use Rattle.nms_answers.proofs.answering.look.Goals as goal

pub returns-in-Ok-clause-seen : goal.returns-in-Ok-clause-seen
returns-in-Ok-clause-seen c = let shown = c.in-Ok.ensures.shown in (shown.0, (shown.2, shown.3), shown.1)

pub returns-in-Ok-clause-knows : goal.returns-in-Ok-clause-knows
returns-in-Ok-clause-knows c =
    let shown = c.in-Ok.ensures.shown in
    keeps_looking c.args.desk.now c.look.new.self shown.0 (shown.2, shown.3)

pub returns-in-Err-clause-knows : goal.returns-in-Err-clause-knows
returns-in-Err-clause-knows c = keeps_itself c.args.desk.now c.look.new.self c.in-Err.ensures.unchanged
