-- `least_cost`: goals that `grind` closes; the search that is tried before it takes longer.
use Rattle.std.proofs.Common.{arith}
use Rattle.std.proofs.lemmas.Grind.{common_steps}
use Rattle.nms_rules.proofs.cutoff.least_cost.Goals as goal

pub plus-paid-requires-clause-low : goal.plus-paid-requires-clause-low
plus-paid-requires-clause-low c = grind (arith, common_steps)

pub minus-requires-clause-high : goal.minus-requires-clause-high
minus-requires-clause-high c = grind (arith, common_steps)

pub minus-requires-clause-low : goal.minus-requires-clause-low
minus-requires-clause-low c = grind (arith, common_steps)

pub plus-paid-requires-clause-high : goal.plus-paid-requires-clause-high
plus-paid-requires-clause-high c = grind (arith, common_steps)

pub times-requires-clause-high : goal.times-requires-clause-high
times-requires-clause-high c = grind (arith, common_steps)

pub times-requires-clause-low : goal.times-requires-clause-low
times-requires-clause-low c = grind (arith, common_steps)
