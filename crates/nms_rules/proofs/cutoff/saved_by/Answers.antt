-- `saved_by`: goals that `grind` closes; the search that is tried before it takes longer.
use Rattle.std.proofs.Common.{arith}
use Rattle.std.proofs.lemmas.Grind.{common_steps}
use Rattle.nms_rules.proofs.cutoff.saved_by.Goals as goal

pub returns-clause-high : goal.returns-clause-high
returns-clause-high c = grind (arith, common_steps)

pub overflow_sub-difference : goal.overflow_sub-difference
overflow_sub-difference c = grind (arith, common_steps)

pub returns-clause-value : goal.returns-clause-value
returns-clause-value c = grind (arith, common_steps)

pub returns-clause-low : goal.returns-clause-low
returns-clause-low c = grind (arith, common_steps)
