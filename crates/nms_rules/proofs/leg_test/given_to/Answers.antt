-- `given_to`: goals that `grind` closes; the search that is tried before it takes longer.
use Rattle.std.proofs.Common.{arith}
use Rattle.std.proofs.lemmas.Grind.{common_steps}
use Rattle.nms_rules.proofs.leg_test.given_to.Goals as goal

pub returns : goal.returns
returns c = grind (arith, common_steps)

pub loop-leg-preserved : goal.loop-leg-preserved
loop-leg-preserved c = grind (arith, common_steps)
