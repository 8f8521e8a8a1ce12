-- `usable_rows`: what holds in each turn of its loop: `items` and `within`.
use Rattle.std.proofs.Common.{◌≡◌, ◌≤◌, length, map, take}
use Rattle.std.specs.List.{filter}
use Rattle.nms_rules.specs.Usable.{is_usable, usable_row}
use Rattle.nms_rules.proofs.usable_row.usable_rows.Given as goal

abbrev pub invariant-loop-row : goal.invariant-loop-row
invariant-loop-row l = record {
  items : l.usable.items ≡ map (usable_row l.order l.fees) (filter (is_usable l.order) (take l.row-index l.row-items));
  within : length l.usable.items ≤ l.row-index;
}
