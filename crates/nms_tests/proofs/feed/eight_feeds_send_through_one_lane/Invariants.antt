-- `eight_feeds_send_through_one_lane`: the taker stays that of its lane.
use Rattle.std.proofs.Common.{◌≡◌}
use Rattle.nms_tests.proofs.feed.eight_feeds_send_through_one_lane.Given as goal

abbrev pub invariant-loop-shares : goal.invariant-loop-shares
invariant-loop-shares g l = record {
  lane : l.taker.lane ≡ l.initial.taker.lane;
  senders : l.taker.senders ≡ l.initial.taker.senders;
}
