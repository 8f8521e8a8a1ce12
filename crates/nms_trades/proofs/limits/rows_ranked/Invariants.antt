-- `rows_ranked`: the rows at the places so far.
use Rattle.std.proofs.Common.{◌≡◌, ◌≤◌, length}
use Rattle.std.specs.List.{filter_map, range_with_len}
use Rattle.nms_board.specs.Ranking.{ranked_at}
use Rattle.nms_board.specs.View.{rows_on}
use Rattle.nms_trades.proofs.limits.rows_ranked.Given as goal

abbrev pub invariant-loop-at : goal.invariant-loop-at
invariant-loop-at l = record {
  items : l.rows.items ≡ filter_map (ranked_at l.side (rows_on l.side l.view)) (range_with_len 0 l.at);
  within : length l.rows.items ≤ l.at;
}
