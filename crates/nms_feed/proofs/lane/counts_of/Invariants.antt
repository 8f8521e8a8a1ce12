-- `counts_of`: one count for each sender so far.
use Rattle.std.proofs.Common.{◌≡◌, length, map, take}
use Rattle.nms_feed.proofs.lane.counts_of.Given as goal

abbrev pub invariant-loop-sender : goal.invariant-loop-sender
invariant-loop-sender l = record {
  counts : l.counts.items ≡ map (λ sender. length sender.sent) (take l.sender-index l.senders);
  count : length l.counts.items ≡ l.sender-index;
}
