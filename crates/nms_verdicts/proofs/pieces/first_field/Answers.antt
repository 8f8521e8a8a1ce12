-- `first_field`: by `first_comma` and `no_comma`.
use Rattle.nms_verdicts.proofs.LineFacts.{first_comma, no_comma}
use Rattle.nms_verdicts.proofs.pieces.first_field.Goals as goal

pub returns-in-Some : goal.returns-in-Some
returns-in-Some c =
    first_comma c.in-Some.end c.args.line.now c.in-Some.ensures.0.high c.in-Some.ensures.0.before c.in-Some.ensures.1

pub returns-in-None : goal.returns-in-None
returns-in-None c = no_comma c.args.line.now c.in-None.ensures
