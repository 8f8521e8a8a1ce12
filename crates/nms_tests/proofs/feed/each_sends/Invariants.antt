-- `each_sends`: the senders so far are back, in lane and feed.
use Rattle.std.proofs.Common.{◌≡◌, ◌≤◌, ◌++◌, length, map}
use Rattle.std.specs.List.{AllByRecursion}
use Rattle.std.specs.Vec.{vec_len, vec_capacity}
use Rattle.std.specs.Vec.Iter.{into_iter_items}
use Rattle.nms_tests.proofs.feed.each_sends.Given as goal

abbrev pub invariant-loop-sender : goal.invariant-loop-sender
invariant-loop-sender g l = record {
  parted : l.yielded ++ into_iter_items l.sender-iterator ≡ l.fn.senders.items;
  count : length l.back.items ≡ length l.yielded;
  room : vec_len l.fn.senders ≤ vec_capacity l.back;
  feeds : map (λ sender. sender.feed) l.back.items ≡ map (λ sender. sender.feed) l.yielded;
  lanes : AllByRecursion (λ sender. sender.lane ≡ l.fn.taker.lane) l.back.items;
}
