-- `read_feed`: after each writer all that was sent was counted.
use Rattle.nms_feeds.specs.Streams.{IsCounted}
use Rattle.nms_serving.proofs.feeding.read_feed.Given as goal

abbrev pub invariant-loop : goal.invariant-loop
invariant-loop g l = IsCounted l.sender.sent l.counts
