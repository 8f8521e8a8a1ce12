-- `firsts_of`: the first quotations among the changes so far.
use Rattle.std.proofs.Common.{◌≡◌, length}
use Rattle.nms_trades.proofs.QuotedFacts.{Firsts}
use Rattle.nms_trades.proofs.quoted.firsts_of.Given as goal

abbrev pub invariant-loop-change : goal.invariant-loop-change
invariant-loop-change l = record {
  place : l.place ≡ l.change-index;
  count : length l.firsts.items ≡ l.syms;
  firsts : Firsts l.changes l.change-index l.firsts.items;
}
