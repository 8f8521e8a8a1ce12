-- `pool`: goals that `grind` closes; the search that is tried before it takes longer.
use Rattle.std.proofs.Common.{arith}
use Rattle.std.proofs.lemmas.Grind.{common_steps}
use Rattle.nms_rules.proofs.cutoff.pool.Goals as goal

pub returns-clause-sum : goal.returns-clause-sum
returns-clause-sum c = grind (arith, common_steps)
