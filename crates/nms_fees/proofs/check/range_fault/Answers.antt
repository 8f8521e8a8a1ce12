-- `range_fault`: goals that `grind` closes; the search that is tried before it takes longer.
use Rattle.std.proofs.Common.{arith}
use Rattle.std.proofs.lemmas.Grind.{common_steps}
use Rattle.nms_fees.proofs.check.range_fault.Goals as goal

pub returns-then-number-high : goal.returns-then-number-high
returns-then-number-high c = grind (arith, common_steps)
