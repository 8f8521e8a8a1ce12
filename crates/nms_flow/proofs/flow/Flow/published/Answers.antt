-- `published`: goals that `grind` closes; the search that is tried before it takes longer.
use Rattle.std.proofs.Common.{arith}
use Rattle.std.proofs.lemmas.Grind.{common_steps}
use Rattle.nms_flow.proofs.flow.Flow.published.Goals as goal

pub returns-clause-at : goal.returns-clause-at
returns-clause-at c = grind (arith, common_steps)

pub returns-clause-told : goal.returns-clause-told
returns-clause-told c = grind (arith, common_steps)
