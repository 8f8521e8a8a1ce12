-- `kind_of_plain`: by `blank_line` and `word_line`.
use Rattle.std.proofs.Common.{sym, ◌∙◌}
use Rattle.nms_verdicts.proofs.LineFacts.{blank_line, word_line}
use Rattle.nms_verdicts.proofs.pieces.kind_of_plain.Goals as goal

pub returns-then-is_empty : goal.returns-then-is_empty
returns-then-is_empty c =
    blank_line c.args.line.now c.trimmed-text.result.now c.trimmed-text.ensures (sym c.is_empty.ensures ∙ c.if-is_empty.true)

pub returns : goal.returns
returns c =
    word_line c.args.line.now c.trimmed-text.result.now c.first_field.result.now c.kind_of_word.result c.trimmed-text.ensures
    (sym c.is_empty.ensures ∙ c.if-is_empty.false) c.first_field.ensures c.kind_of_word.ensures
