-- `read_feeds`: what holds in each turn of its loop.
-- each file so far gave one text, which is within its limit
use Rattle.std.proofs.Common.{◌≡◌, ◌≤◌, All, length}
use Rattle.nms_command.specs.LiveFiles.{most_feed_bytes}
use Rattle.nms_command.proofs.live_input.read_feeds.Given as goal

abbrev pub invariant-loop-path : goal.invariant-loop-path
invariant-loop-path g l =
    (length l.feeds.items ≡ l.path-index) × All (λ feed. length feed.items ≤ most_feed_bytes) l.feeds.items
