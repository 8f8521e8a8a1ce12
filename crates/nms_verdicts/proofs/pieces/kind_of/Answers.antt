-- `kind_of`: by `quoted_line` and `plain_line`.
use Rattle.std.proofs.Common.{sym, ◌∙◌}
use Rattle.nms_verdicts.proofs.LineFacts.{plain_line, quoted_line}
use Rattle.nms_verdicts.proofs.pieces.kind_of.Goals as goal

pub returns-then-begins_with_quote : goal.returns-then-begins_with_quote
returns-then-begins_with_quote c =
    quoted_line c.args.line.now c.kind_of_quoted.result (sym c.begins_with_quote.ensures ∙ c.if-begins_with_quote.true)
    c.kind_of_quoted.ensures

pub returns : goal.returns
returns c =
    plain_line c.args.line.now c.kind_of_plain.result (sym c.begins_with_quote.ensures ∙ c.if-begins_with_quote.false)
    c.kind_of_plain.ensures
