-- `sums_at`: what holds in each turn of its loop: each sum over the rows so far, and its bounds.
use Rattle.std.proofs.Common.{◌≡◌, ◌≤◌, ◌*◌, ◌^◌, take}
use Rattle.std.specs.Prelude.{◌≤ℤ◌, neg_ℤ, pos}
use Rattle.nms_rules.specs.Cutoff.{savings, swept, swept_cost}
use Rattle.nms_rules.specs.declared.TheConstants.{MOST_SIZE}
use Rattle.nms_rules.proofs.cutoff.sums_at.Given as goal

abbrev pub invariant-loop-row : goal.invariant-loop-row
invariant-loop-row l = record {
  swept : l.sums.swept ≡ swept l.cutoff (take l.row-index l.rows);
  within : l.sums.swept ≤ l.row-index * MOST_SIZE;
  swept_cost : l.sums.swept_cost ≡ swept_cost l.cutoff (take l.row-index l.rows);
  cost_low : neg_ℤ (pos (l.row-index * 2 ^ 100)) ≤ℤ l.sums.swept_cost;
  cost_high : l.sums.swept_cost ≤ℤ pos (l.row-index * 2 ^ 100);
  savings : l.sums.savings ≡ savings l.cutoff l.marginal (take l.row-index l.rows);
  savings_low : neg_ℤ (pos (l.row-index * 2 ^ 100)) ≤ℤ l.sums.savings;
  savings_high : l.sums.savings ≤ℤ pos (l.row-index * 2 ^ 100);
}
