-- `send`: goals that `grind` closes; the search that is tried before it takes longer.
use Rattle.std.proofs.Common.{arith}
use Rattle.std.proofs.lemmas.Grind.{common_steps}
use Rattle.nms_flow.proofs.flow.Flow.send.Goals as goal

pub returns-clause-went : goal.returns-clause-went
returns-clause-went c = grind (arith, common_steps)

pub returns-then-len-self-clause-went : goal.returns-then-len-self-clause-went
returns-then-len-self-clause-went c = grind (arith, common_steps)
