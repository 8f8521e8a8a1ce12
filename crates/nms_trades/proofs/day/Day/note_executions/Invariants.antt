-- `Day::note_executions`: each finding so far whose execution is judged here has made one judged record more.
use Rattle.std.proofs.Common.{◌≡◌, ◌+◌, filter, length, take}
use Rattle.nms_trades.specs.Counts.{is_judged, stands}
use Rattle.nms_trades.specs.Day.{judged_among}
use Rattle.nms_trades.proofs.day.Day.note_executions.Given as goal

abbrev pub invariant-loop-answer : goal.invariant-loop-answer
invariant-loop-answer l = record {
  place : l.place ≡ l.answer-index;
  records : judged_among l.self.said.items
      ≡ judged_among l.fn.self.said.items + length (filter (stands is_judged) (take l.answer-index l.findings));
  tally : l.self.tally ≡ l.fn.self.tally;
}
