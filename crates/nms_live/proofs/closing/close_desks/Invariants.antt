-- `close_desks`: what holds in each turn of its loop: `parted`, `count`, `all`, `keeper` and `rows`.
use Rattle.std.proofs.Common.{◌≡◌, ◌++◌, length}
use Rattle.std.specs.Vec.Iter.{into_iter_items}
use Rattle.nms_versions.specs.Taped.{tape_of}
use Rattle.nms_live.specs.Rows.{AreRows}
use Rattle.nms_live.proofs.closing.close_desks.Given as goal

-- the desks so far were settled
abbrev pub invariant-loop-desked : goal.invariant-loop-desked
invariant-loop-desked g l = record {
  parted : l.yielded ++ into_iter_items l.desked-iterator ≡ l.fn.desks.items;
  count : l.number ≡ length l.yielded;
  all : length l.rows.items ≡ l.number;
  keeper : l.keeper ≡ l.fn.keeper;
  rows : AreRows l.given.setup.now l.given.orders.items (tape_of l.fn.keeper.taped) l.fn.keeper.listed l.rows.items;
}
