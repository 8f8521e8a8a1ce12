-- `feeds_in`: what holds in each turn of its loop: `read` and `apart`.
use Rattle.std.proofs.Common.{◌≡◌, false, Some, map, take}
use Rattle.nms_serve.specs.CommandLine.{shown_feed}
use Rattle.nms_serve.specs.Values.{each_of, feed_of, has_twice, is_same_feed}
use Rattle.nms_serve.proofs.words.command_words.feeds_in.Given as goal

-- the feeds so far are those of the values so far, and no letter is there twice
abbrev pub invariant-loop-value : goal.invariant-loop-value
invariant-loop-value l = record {
  read : each_of feed_of (map (λ value. value.now) (take l.value-index l.values)) ≡ Some (map shown_feed l.feeds.items);
  apart : has_twice is_same_feed (map shown_feed l.feeds.items) ≡ false;
}
