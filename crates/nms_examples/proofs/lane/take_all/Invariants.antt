-- `take_all`: the taker stays that of its lane.
use Rattle.std.proofs.Common.{◌≡◌}
use Rattle.nms_examples.proofs.lane.take_all.Given as goal

abbrev pub invariant-loop : goal.invariant-loop
invariant-loop g l = record {
  lane : l.taker.lane ≡ l.initial.taker.lane;
  senders : l.taker.senders ≡ l.initial.taker.senders;
}
