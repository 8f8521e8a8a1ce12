-- `Day::make_room`: no record more is judged.
use Rattle.std.proofs.Common.{◌≡◌}
use Rattle.nms_trades.specs.Day.{judged_among}
use Rattle.nms_trades.proofs.day.Day.make_room.Given as goal

abbrev pub invariant-loop : goal.invariant-loop
invariant-loop l = record {
  records : judged_among l.self.said.items ≡ judged_among l.fn.self.said.items;
  tally : l.self.tally ≡ l.fn.self.tally;
}
