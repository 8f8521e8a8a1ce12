-- `kind_before`: goals that `grind` closes; the search that is tried before it takes longer.
use Rattle.std.proofs.Common.{arith}
use Rattle.std.proofs.lemmas.Grind.{common_steps}
use Rattle.nms_lines.proofs.plan_writing.kind_before.Goals as goal

pub returns-in-Marginal-clause-written : goal.returns-in-Marginal-clause-written
returns-in-Marginal-clause-written c = grind (arith, common_steps)
