-- `find_breach`: goals that `grind` closes; the search that is tried before it takes longer.
use Rattle.std.proofs.Common.{arith}
use Rattle.std.proofs.lemmas.Grind.{common_steps}
use Rattle.nms_rules.proofs.breach_finding.find_breach.Goals as goal

pub returns-in-Some-sum_breach-clause-offers : goal.returns-in-Some-sum_breach-clause-offers
returns-in-Some-sum_breach-clause-offers c = grind (arith, common_steps)

pub returns-clause-bids : goal.returns-clause-bids
returns-clause-bids c = grind (arith, common_steps)

pub returns-then-plan-version-clause-offers : goal.returns-then-plan-version-clause-offers
returns-then-plan-version-clause-offers c = grind (arith, common_steps)

pub returns-then-is_other_order-clause-offers : goal.returns-then-is_other_order-clause-offers
returns-then-is_other_order-clause-offers c = grind (arith, common_steps)

pub returns-in-Some-clause-bids : goal.returns-in-Some-clause-bids
returns-in-Some-clause-bids c = grind (arith, common_steps)

pub returns-then-is_cost_wrong-clause-bids : goal.returns-then-is_cost_wrong-clause-bids
returns-then-is_cost_wrong-clause-bids c = grind (arith, common_steps)

pub returns-in-Some-sum_breach-clause-bids : goal.returns-in-Some-sum_breach-clause-bids
returns-in-Some-sum_breach-clause-bids c = grind (arith, common_steps)

pub returns-then-is_other_order-clause-bids : goal.returns-then-is_other_order-clause-bids
returns-then-is_other_order-clause-bids c = grind (arith, common_steps)

pub returns-then-is_cost_wrong-clause-offers : goal.returns-then-is_cost_wrong-clause-offers
returns-then-is_cost_wrong-clause-offers c = grind (arith, common_steps)

pub returns-then-is_filled_wrong-clause-offers : goal.returns-then-is_filled_wrong-clause-offers
returns-then-is_filled_wrong-clause-offers c = grind (arith, common_steps)

pub returns-in-Some-clause-offers : goal.returns-in-Some-clause-offers
returns-in-Some-clause-offers c = grind (arith, common_steps)

pub returns-clause-offers : goal.returns-clause-offers
returns-clause-offers c = grind (arith, common_steps)

pub returns-then-is_filled_wrong-clause-bids : goal.returns-then-is_filled_wrong-clause-bids
returns-then-is_filled_wrong-clause-bids c = grind (arith, common_steps)

pub returns-then-plan-version-clause-bids : goal.returns-then-plan-version-clause-bids
returns-then-plan-version-clause-bids c = grind (arith, common_steps)
