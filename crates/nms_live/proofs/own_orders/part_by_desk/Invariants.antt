-- `part_by_desk`: what holds in each turn of its loop: `all` and `own`.
use Rattle.std.proofs.Common.{◌≡◌, length, take}
use Rattle.nms_live.specs.Answering.{AreOwn}
use Rattle.nms_live.proofs.own_orders.part_by_desk.Given as goal

-- the orders so far are in their desks' rows
abbrev pub invariant-loop-place : goal.invariant-loop-place
invariant-loop-place l = record {
  all : length l.rows.items ≡ l.desks;
  own : AreOwn (take l.place l.orders) l.rows.items;
}
