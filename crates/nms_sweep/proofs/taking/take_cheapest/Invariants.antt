-- `take_cheapest`: what holds in each turn of its loop: `marginal`, `cost`, `marginal_low`, `marginal_high`,
-- `within`, `low`, `high` and `few`.
use Rattle.std.proofs.Common.{◌≡◌, ◌≤◌, ◌*◌, ◌^◌, drop, length}
use Rattle.std.specs.Prelude.{pos, neg_ℤ, ◌+ℤ◌, ◌≤ℤ◌}
use Rattle.nms_units.specs.declared.TheConstants.{MOST_SHARES}
use Rattle.nms_sweep.specs.Choice.{share_cost}
use Rattle.nms_sweep.specs.Taken.{taken_cost}
use Rattle.nms_sweep.proofs.taking.take_cheapest.Given as goal

abbrev pub invariant-loop-at : goal.invariant-loop-at
invariant-loop-at l = record {
  marginal : share_cost l.cutoff l.number (pos 0) l.by_cost ≡ share_cost l.cutoff l.left l.taken.marginal (drop l.at l.by_cost);
  cost : taken_cost l.cutoff l.number l.by_cost ≡ l.taken.cost +ℤ taken_cost l.cutoff l.left (drop l.at l.by_cost);
  marginal_low : neg_ℤ (pos (10 ^ 18)) ≤ℤ l.taken.marginal;
  marginal_high : l.taken.marginal ≤ℤ pos (10 ^ 18);
  within : l.at ≤ length l.by_cost;
  low : neg_ℤ (pos (l.at * 2 ^ 100)) ≤ℤ l.taken.cost;
  high : l.taken.cost ≤ℤ pos (l.at * 2 ^ 100);
  few : l.left ≤ MOST_SHARES;
}
