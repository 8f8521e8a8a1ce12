-- `join_feeds`, its loop: the workers so far are back, each with what its promise says.
use Rattle.std.proofs.Common.{◌≡◌, ◌≤◌, ◌++◌, length}
use Rattle.std.specs.List.{AllZip}
use Rattle.std.specs.Vec.{vec_len, vec_capacity}
use Rattle.std.specs.Vec.Iter.{into_iter_items}
use Rattle.nms_live.specs.Crew.{HasKept}
use Rattle.nms_live.proofs.feed_workers.join_feeds.Given as goal

abbrev pub invariant-loop-handle : goal.invariant-loop-handle
invariant-loop-handle g l = record {
  parted : l.yielded ++ into_iter_items l.handle-iterator ≡ l.fn.handles.items;
  all : length l.back.items ≡ length l.yielded;
  room : vec_len l.fn.handles ≤ vec_capacity l.back;
  kept : AllZip HasKept l.yielded l.back.items;
}
