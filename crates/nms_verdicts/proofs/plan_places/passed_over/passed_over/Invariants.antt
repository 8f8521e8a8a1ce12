-- `passed_over`: what holds in each turn of its loop: `items` and `within`.
use Rattle.std.proofs.Common.{◌≡◌, ◌≤◌, length, map, take}
use Rattle.std.specs.List.{filter}
use Rattle.nms_rules.specs.Breach.{is_traded_through}
use Rattle.nms_verdicts.specs.BreachPlaces.{passed_by}
use Rattle.nms_verdicts.proofs.plan_places.passed_over.passed_over.Given as goal

abbrev pub invariant-loop-row : goal.invariant-loop-row
invariant-loop-row l = record {
  items : l.passed.items ≡ map (passed_by l.legs) (filter (is_traded_through l.order l.legs) (take l.row-index l.row-items));
  within : length l.passed.items ≤ l.row-index;
}
