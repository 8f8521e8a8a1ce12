-- `least`: goals that `grind` closes; the search that is tried before it takes longer.
use Rattle.std.proofs.Common.{arith}
use Rattle.std.proofs.lemmas.Grind.{common_steps}
use Rattle.nms_fees.proofs.check.least.Goals as goal

pub loop-finding-preserved : goal.loop-finding-preserved
loop-finding-preserved c = grind (arith, common_steps)
