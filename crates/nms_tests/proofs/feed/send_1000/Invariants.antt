-- `send_1000`: the sender stays that of its lane and feed, and there is room for what it sends.
use Rattle.std.proofs.Common.{◌≡◌, ◌≤◌, length}
use Rattle.nms_tests.proofs.feed.send_1000.Given as goal

abbrev pub invariant-loop-number : goal.invariant-loop-number
invariant-loop-number g l = record {
  lane : l.sender.lane ≡ l.initial.sender.lane;
  feed : l.sender.feed ≡ l.initial.sender.feed;
  few : length l.sender.sent ≤ l.number;
}
