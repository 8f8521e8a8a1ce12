-- `cap_fault`: goals that `grind` closes; the search that is tried before it takes longer.
use Rattle.std.proofs.Common.{arith}
use Rattle.std.proofs.lemmas.Grind.{common_steps}
use Rattle.nms_fees.proofs.check.cap_fault.Goals as goal

pub returns-then-number-from : goal.returns-then-number-from
returns-then-number-from c = grind (arith, common_steps)

pub returns-then-not-is_within : goal.returns-then-not-is_within
returns-then-not-is_within c = grind (arith, common_steps)

pub overflow_sub-from : goal.overflow_sub-from
overflow_sub-from c = grind (arith, common_steps)

pub returns-else-number-from : goal.returns-else-number-from
returns-else-number-from c = grind (arith, common_steps)
