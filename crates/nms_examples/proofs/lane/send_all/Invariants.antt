-- `send_all`: the sender stays that of its lane and feed, and there is room for what it sends.
use Rattle.std.proofs.Common.{◌≡◌, ◌≤◌, length}
use Rattle.nms_examples.proofs.lane.send_all.Given as goal

abbrev pub invariant-loop-sent : goal.invariant-loop-sent
invariant-loop-sent g l = record {
  lane : l.sender.lane ≡ l.initial.sender.lane;
  feed : l.sender.feed ≡ l.initial.sender.feed;
  few : length l.sender.sent ≤ l._sent;
}
