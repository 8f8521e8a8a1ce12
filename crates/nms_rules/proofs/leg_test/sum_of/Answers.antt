-- `sum_of`: goals that `grind` closes; the search that is tried before it takes longer.
use Rattle.std.proofs.Common.{arith}
use Rattle.std.proofs.lemmas.Grind.{common_steps}
use Rattle.nms_rules.proofs.leg_test.sum_of.Goals as goal

pub loop-leg-preserved : goal.loop-leg-preserved
loop-leg-preserved c = grind (arith, common_steps)
