-- `cost_of`: what holds in each turn of its loop: `cost`, `low` and `high`.
use Rattle.std.proofs.Common.{◌≡◌, ◌*◌, ◌^◌, take}
use Rattle.std.specs.Prelude.{◌≤ℤ◌, neg_ℤ, pos}
use Rattle.nms_rules.specs.Faultless.{cost_of}
use Rattle.nms_rules.proofs.leg_test.cost_of.Given as goal

abbrev pub invariant-loop-leg : goal.invariant-loop-leg
invariant-loop-leg l = record {
  cost : l.cost ≡ cost_of l.fees l.side (take l.leg-index l.legs);
  low : neg_ℤ (pos (l.leg-index * 2 ^ 100)) ≤ℤ l.cost;
  high : l.cost ≤ℤ pos (l.leg-index * 2 ^ 100);
}
