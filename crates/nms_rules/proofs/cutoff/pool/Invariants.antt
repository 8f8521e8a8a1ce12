-- `pool`: what holds in each turn of its loop: `sum` and `within`.
use Rattle.std.proofs.Common.{◌≡◌, ◌≤◌, ◌*◌, take}
use Rattle.nms_rules.specs.Cutoff.{pool}
use Rattle.nms_rules.specs.declared.TheConstants.{MOST_SIZE}
use Rattle.nms_rules.proofs.cutoff.pool.Given as goal

abbrev pub invariant-loop-row : goal.invariant-loop-row
invariant-loop-row l = record {
  sum : l.sum ≡ pool l.cutoff (take l.row-index l.rows);
  within : l.sum ≤ l.row-index * MOST_SIZE;
}
