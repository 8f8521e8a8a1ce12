-- `write_each`: what holds in each turn of its loop.
use Rattle.std.proofs.Common.{◌≡◌, true, drop}
use Rattle.nms_trades.specs.Answers.{answers_in, in_order, is_text, text_of_answers}
use Rattle.nms_trades.proofs.AnswerFacts.{Going}
use Rattle.nms_trades.proofs.lines.write_each.Given as goal

-- the answers so far were written, and those that are left are answered in the same order
abbrev pub invariant-loop-place : goal.invariant-loop-place
invariant-loop-place g l = is_text l.shape ≡ true → Going (g.W.Write.contents l.fn.answers) (g.W.Write.contents l.answers)
    (answers_in l.shape l.roster l.records.executions.items l.records.refused.items l.findings)
    (text_of_answers l.shape l.roster (in_order l.findings l.place (drop l.place l.records.executions.items) (drop l.refused
    l.records.refused.items)))
