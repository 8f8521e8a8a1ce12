-- `start_feeds`, its loop: each sender's worker so far was started, unless one could not be.
use Rattle.std.proofs.Common.{◌≡◌, ◌≤◌, ◌++◌, true, length}
use Rattle.std.specs.List.{AllByRecursion, AllZip}
use Rattle.std.specs.Vec.{vec_len, vec_capacity}
use Rattle.std.specs.Vec.Iter.{into_iter_items}
use Rattle.nms_live.specs.Crew.{IsFresh, WillBeFed, texts_of}
use Rattle.nms_live.proofs.feed_workers.start_feeds.Given as goal

abbrev pub invariant-loop-sender : goal.invariant-loop-sender
invariant-loop-sender g l = record {
  parted : l.yielded ++ into_iter_items l.sender-iterator ≡ l.fn.senders.items;
  fresh : AllByRecursion IsFresh (into_iter_items l.sender-iterator);
  few : length l.handles.items ≤ length l.yielded;
  room : vec_len l.fn.senders ≤ vec_capacity l.handles;
  started : l.all_started ≡ true → AllZip (WillBeFed l.given.setup.now.roster (texts_of l.given)) l.yielded l.handles.items;
}
