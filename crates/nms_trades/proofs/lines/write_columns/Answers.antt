-- `write_columns`: the names come first, then the lines, by `written_after` and `cut_after`.
use Rattle.std.proofs.Common.{refl}
use Rattle.nms_trades.specs.Answers.{answers_in}
use Rattle.nms_trades.specs.Columns.{names_text}
use Rattle.nms_trades.specs.declared.shape.Shape.TheVariants as shape
use Rattle.nms_trades.proofs.AnswerFacts.{cut_after, part_of_longer, written_after}
use Rattle.nms_trades.proofs.lines.write_columns.Goals as goal

pub returns-in-Ok-clause-written : goal.returns-in-Ok-clause-written
returns-in-Ok-clause-written g c =
    written_after c.write_all.result (g.W.Write.contents c.args.answers.now) (g.W.Write.contents c.write_names.new.answers)
    (g.W.Write.contents c.write_all.new.answers) names_text
    (answers_in shape.Columns c.args.roster.now c.args.records.now.executions.items c.args.records.now.refused.items
    c.args.findings.now) c.in-Ok.ensures.written (c.write_all.ensures.written refl)

pub returns-in-Ok-clause-cut : goal.returns-in-Ok-clause-cut
returns-in-Ok-clause-cut g c =
    cut_after c.write_all.result (g.W.Write.contents c.args.answers.now) (g.W.Write.contents c.write_names.new.answers)
    (g.W.Write.contents c.write_all.new.answers) names_text
    (answers_in shape.Columns c.args.roster.now c.args.records.now.executions.items c.args.records.now.refused.items
    c.args.findings.now) c.in-Ok.ensures.written (c.write_all.ensures.cut refl)

pub returns-in-Err-clause-cut : goal.returns-in-Err-clause-cut
returns-in-Err-clause-cut g c =
    part_of_longer (g.W.Write.contents c.args.answers.now) (g.W.Write.contents c.write_names.new.answers) names_text
    (answers_in shape.Columns c.args.roster.now c.args.records.now.executions.items c.args.records.now.refused.items
    c.args.findings.now) c.in-Err.ensures.cut
