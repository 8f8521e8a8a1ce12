-- `tally_of`: the answers so far were counted.
use Rattle.std.proofs.Common.{◌≡◌, filter, length, take}
use Rattle.nms_trades.specs.Counts.{is_judged, is_noquote, is_other, is_perhaps, is_through, stands}
use Rattle.nms_trades.proofs.table.tally_of.Given as goal

abbrev pub invariant-loop-answer : goal.invariant-loop-answer
invariant-loop-answer l = record {
  place : l.place ≡ l.answer-index;
  others : l.tally.others ≡ length (filter (stands is_other) (take l.answer-index l.findings));
  executions : l.tally.all.executions ≡ length (filter (stands is_judged) (take l.answer-index l.findings));
  unquoted : l.tally.all.unquoted ≡ length (filter (stands is_noquote) (take l.answer-index l.findings));
  perhaps : l.tally.all.perhaps.executions ≡ length (filter (stands is_perhaps) (take l.answer-index l.findings));
  through : l.tally.all.through.executions ≡ length (filter (stands is_through) (take l.answer-index l.findings));
}
