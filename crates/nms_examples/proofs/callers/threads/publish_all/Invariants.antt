-- `publish_all`: the publisher stays that of its opening, the taker that of its lane.
use Rattle.std.proofs.Common.{◌≡◌}
use Rattle.nms_examples.proofs.callers.threads.publish_all.Given as goal

abbrev pub invariant-loop : goal.invariant-loop
invariant-loop g l = record {
  opening : l.publisher.opening ≡ l.fn.publisher.opening;
  lane : l.taker.lane ≡ l.initial.taker.lane;
  senders : l.taker.senders ≡ l.initial.taker.senders;
}
