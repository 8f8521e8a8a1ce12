-- `start_desks`: what holds in each turn of its loop: `parted`, `count`, `all`, `room` and `started`.
use Rattle.std.proofs.Common.{◌≡◌, ◌≤◌, ◌++◌, length}
use Rattle.std.specs.Vec.{vec_len, vec_capacity}
use Rattle.std.specs.Vec.Iter.{into_iter_items}
use Rattle.nms_live.specs.Crew.{AreStarted}
use Rattle.nms_live.proofs.desk_workers.start_desks.Given as goal

-- the workers so far were started, each with its number and desk
abbrev pub invariant-loop-desk : goal.invariant-loop-desk
invariant-loop-desk g l = record {
  parted : l.yielded ++ into_iter_items l.desk-iterator ≡ l.fn.desks.items;
  count : l.number ≡ length l.yielded;
  all : length l.handles.items ≡ l.number;
  room : vec_len l.fn.desks ≤ vec_capacity l.handles;
  started : AreStarted l.given.setup.now l.given.orders.items l.fn.desks.items l.handles.items;
}
