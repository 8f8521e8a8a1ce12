-- `write_refused`: what holds in each turn of its loop.
use Rattle.std.proofs.Common.{◌≡◌, true, drop}
use Rattle.nms_trades.specs.Answers.{is_text, refused_left, refused_text}
use Rattle.nms_trades.proofs.AnswerFacts.{Going}
use Rattle.nms_trades.proofs.lines.write_refused.Given as goal

-- the records so far are before, and were written
abbrev pub invariant-loop-place : goal.invariant-loop-place
invariant-loop-place g l = record {
  going : is_text l.shape ≡ true → Going (g.W.Write.contents l.fn.answers) (g.W.Write.contents l.answers)
      (refused_text l.shape l.number (drop l.first l.records.refused.items)) (refused_text l.shape l.number (drop l.place l.records.refused.items));
  left : refused_left l.number (drop l.first l.records.refused.items) ≡ refused_left l.number (drop l.place l.records.refused.items);
}
