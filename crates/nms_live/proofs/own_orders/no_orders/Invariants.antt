-- `no_orders`: what holds in each turn of its loop: `all` and `own`.
use Rattle.std.proofs.Common.{◌≡◌, [], length}
use Rattle.nms_live.specs.Answering.{AreOwn}
use Rattle.nms_live.proofs.own_orders.no_orders.Given as goal

-- there are n rows, each with no orders
abbrev pub invariant-loop : goal.invariant-loop
invariant-loop l = record {
  all : length l.rows.items ≡ l.counter;
  own : AreOwn [] l.rows.items;
}
