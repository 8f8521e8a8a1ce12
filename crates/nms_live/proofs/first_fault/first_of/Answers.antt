-- `first_of`: goals that `grind` closes; the search that is tried before it takes longer.
use Rattle.std.proofs.Common.{arith}
use Rattle.std.proofs.lemmas.Grind.{common_steps}
use Rattle.nms_live.proofs.first_fault.first_of.Goals as goal

pub returns-then-rank-clause-either : goal.returns-then-rank-clause-either
returns-then-rank-clause-either c = grind (arith, common_steps)

pub returns-else-rank-clause-either : goal.returns-else-rank-clause-either
returns-else-rank-clause-either c = grind (arith, common_steps)
