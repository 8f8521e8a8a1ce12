-- `orders_of`: what holds in each turn of its loop.
use Rattle.std.proofs.Common.{◌<◌, All}
use Rattle.nms_tests.proofs.live.orders_of.Given as goal

abbrev pub invariant-loop-wanted : goal.invariant-loop-wanted
invariant-loop-wanted g l = All (λ order. order.desk < l.desks) l.orders.items
