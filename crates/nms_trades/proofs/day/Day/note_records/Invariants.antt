-- `Day::note_records`: a refused record is judged nowhere, so as many are judged as before.
use Rattle.std.proofs.Common.{◌≡◌}
use Rattle.nms_trades.specs.Day.{judged_among}
use Rattle.nms_trades.proofs.day.Day.note_records.Given as goal

abbrev pub invariant-loop-refusal : goal.invariant-loop-refusal
invariant-loop-refusal l = record {
  records : judged_among l.self.said.items ≡ judged_among l.fn.self.said.items;
  tally : l.self.tally ≡ l.fn.self.tally;
}
