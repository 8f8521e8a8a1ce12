-- `drop_front`: what holds in each turn of its loop: `items` and `capacity`.
use Rattle.std.proofs.Common.{◌≡◌, drop}
use Rattle.std.specs.VecDeque.{deque_capacity}
use Rattle.nms_flow.proofs.flow.drop_front.Given as goal

-- n are gone
abbrev pub invariant-loop : goal.invariant-loop
invariant-loop l = record {
  items : l.queue.items ≡ drop l.counter l.fn.queue.items;
  capacity : deque_capacity l.queue ≡ deque_capacity l.fn.queue;
}
