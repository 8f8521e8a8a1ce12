-- `best_price`: none of the rows that were read is protected.
use Rattle.std.proofs.Common.{◌≡◌, None, take}
use Rattle.nms_board.specs.Ranking.{ranked}
use Rattle.nms_board.specs.Shown.{rows_held}
use Rattle.nms_board.specs.View.{AreRows}
use Rattle.nms_trades.specs.Judged.{best_protected}
use Rattle.nms_trades.proofs.bests.best_price.Given as goal

abbrev pub invariant-loop-at : goal.invariant-loop-at
invariant-loop-at l = record {
  rows : AreRows (rows_held l.board l.sym l.side);
  none : best_protected (take l.at (ranked l.side (rows_held l.board l.sym l.side))) ≡ None;
}
