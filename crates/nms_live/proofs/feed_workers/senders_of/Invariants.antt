-- `senders_of`, its loop: the ends of those that were gone through.
use Rattle.std.proofs.Common.{◌≡◌, ◌++◌, map}
use Rattle.std.specs.Vec.Iter.{into_iter_items}
use Rattle.nms_live.proofs.feed_workers.senders_of.Given as goal

abbrev pub invariant-loop-sender : goal.invariant-loop-sender
invariant-loop-sender l = record {
  parted : l.yielded ++ into_iter_items l.sender-iterator ≡ l.fn.fed.items;
  senders : l.senders.items ≡ map (λ back. back.sender) l.yielded;
}
