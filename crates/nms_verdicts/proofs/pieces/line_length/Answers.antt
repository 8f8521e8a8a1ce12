-- `line_length`: by `behind` and `all_behind`.
use Rattle.std.proofs.Common.{◌≡◌, ◌+◌, drop, ap, arith}
use Rattle.std.proofs.lemmas.List.{take_rest}
use Rattle.nms_verdicts.specs.Pieces.{first_length}
use Rattle.nms_verdicts.proofs.LineFacts.{all_behind, behind}
use Rattle.nms_verdicts.proofs.pieces.line_length.Goals as goal

pub returns-in-Some-clause-length : goal.returns-in-Some-clause-length
returns-in-Some-clause-length c =
    let text = c.args.text.now in
    let end = c.in-Some.end in
    let skipped : end + first_length (drop end text) ≡ first_length text =
    behind end text (omega (arith, c.in-Some.ensures.0.high)) c.in-Some.ensures.0.before in
    omega (arith, c.end_length.ensures.length, skipped, ap first_length (take_rest text end))

pub returns-in-None-clause-length : goal.returns-in-None-clause-length
returns-in-None-clause-length c = all_behind c.args.text.now c.in-None.ensures
