-- `all_sent`: what the senders so far sent.
use Rattle.std.proofs.Common.{◌≡◌, ◌≤◌, ◌*◌, length, take}
use Rattle.std.specs.Prelude.{sum_by}
use Rattle.nms_feed.specs.declared.TheConstants.{MOST_SENT}
use Rattle.nms_feed.proofs.lane.all_sent.Given as goal

abbrev pub invariant-loop-sender : goal.invariant-loop-sender
invariant-loop-sender l = record {
  sum : l.sent ≡ sum_by (λ sender. length sender.sent) (take l.sender-index l.senders);
  within : l.sent ≤ l.sender-index * MOST_SENT;
}
