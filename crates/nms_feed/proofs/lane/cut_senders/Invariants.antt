-- `cut_senders`: the senders so far, and what is left with the first pass.
use Rattle.std.proofs.Common.{◌≡◌, ◌≤◌, [], map, take}
use Rattle.std.specs.Vec.{vec_len, vec_capacity}
use Rattle.crossbeam_queue.specs.Passes.{IsPassOf, IsSamePass, view}
use Rattle.nms_quote.specs.Merge.{feeds}
use Rattle.nms_feed.specs.Known.{taker_view}
use Rattle.nms_feed.specs.Lane.{fresh}
use Rattle.nms_feed.proofs.lane.cut_senders.Given as goal

abbrev pub invariant-loop-place : goal.invariant-loop-place
invariant-loop-place l = record {
  ends : l.ends.items ≡ map (fresh l.fn.pass.table_id) (take l.place feeds);
  count : vec_len l.ends ≡ l.place;
  room : l.senders ≤ vec_capacity l.ends;
  of_line : IsPassOf l.line.value l.pass;
  same : IsSamePass l.fn.pass l.pass;
  knows : view l.pass ≡ taker_view l.place [];
}
