-- `without_mark`: by `marked` and `unmarked`.
use Rattle.std.proofs.Common.{◌∙◌}
use Rattle.nms_verdicts.proofs.LineFacts.{marked, unmarked}
use Rattle.nms_verdicts.proofs.pieces.without_mark.Goals as goal

pub returns-in-Some : goal.returns-in-Some
returns-in-Some c = c.in-Some.ensures.cases.1 ∙ marked c.args.text.now c.in-Some.ensures.cases.0

pub returns-in-None : goal.returns-in-None
returns-in-None c = unmarked c.args.text.now c.in-None.ensures.cases
