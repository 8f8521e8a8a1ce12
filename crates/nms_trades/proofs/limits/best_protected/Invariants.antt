-- `best_protected`: the first one is among the rows that are left.
use Rattle.std.proofs.Common.{◌≡◌, drop}
use Rattle.nms_trades.specs.Judged.{best_protected}
use Rattle.nms_trades.proofs.limits.best_protected.Given as goal

abbrev pub invariant-loop-row : goal.invariant-loop-row
invariant-loop-row l = best_protected (drop l.row-index l.rows) ≡ best_protected l.rows
