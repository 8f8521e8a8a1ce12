-- `put_usable_rows`: what holds in each turn of its loop: `rows`, `items` and `within`.
use Rattle.std.proofs.Common.{◌≡◌, ◌≤◌, length, take}
use Rattle.nms_board.specs.Ranking.{ranked}
use Rattle.nms_board.specs.Shown.{rows_held}
use Rattle.nms_board.specs.View.{AreRows}
use Rattle.nms_rules.specs.Usable.{contra}
use Rattle.nms_rules.proofs.HeldLemmas.{usable_among}
use Rattle.nms_rules.proofs.usable_row.put_usable_rows.Given as goal

-- the usable ones of the first rows in rank order
abbrev pub invariant-loop-at : goal.invariant-loop-at
invariant-loop-at l = record {
  rows : AreRows (rows_held l.board l.order.sym (contra l.order.side));
  items : l.rows.items
      ≡ usable_among l.order l.fees (take l.at (ranked (contra l.order.side) (rows_held l.board l.order.sym (contra l.order.side))));
  within : length l.rows.items ≤ l.at;
}
