-- `join`: the taker's pass has taken in those of the senders so far.
use Rattle.std.proofs.Common.{◌≡◌, ◌++◌}
use Rattle.std.specs.Vec.Iter.{into_iter_items}
use Rattle.crossbeam_queue.specs.Passes.{IsPassOf, view}
use Rattle.nms_feed.proofs.Ends.{joined}
use Rattle.nms_feed.proofs.lane.join.Given as goal

abbrev pub invariant-loop-sender : goal.invariant-loop-sender
invariant-loop-sender l = record {
  parted : l.yielded ++ into_iter_items l.sender-iterator ≡ l.fn.senders.items;
  of_line : IsPassOf l.line.value l.pass;
  lane : l.pass.table_id ≡ l.fn.taker.lane;
  knows : view l.pass ≡ joined l.fn.taker.senders l.fn.taker.taken l.yielded;
}
