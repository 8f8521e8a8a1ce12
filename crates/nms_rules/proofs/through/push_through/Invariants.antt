-- `push_through`: what holds in each turn of its loop: `items` and `within`.
use Rattle.std.proofs.Common.{◌≡◌, ◌≤◌, ◌+◌, ◌++◌, length, take}
use Rattle.nms_rules.specs.Through.{through_on}
use Rattle.nms_rules.proofs.through.push_through.Given as goal

abbrev pub invariant-loop-row : goal.invariant-loop-row
invariant-loop-row l = record {
  items : l.through.items ≡ l.fn.through.items ++ through_on l.side (take l.row-index l.rows) l.price;
  within : length l.through.items ≤ length l.fn.through.items + l.row-index;
}
