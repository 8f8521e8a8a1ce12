-- `savings_part`: goals that `grind` closes; the search that is tried before it takes longer.
use Rattle.std.proofs.Common.{arith}
use Rattle.std.proofs.lemmas.Grind.{common_steps}
use Rattle.nms_rules.proofs.cutoff.savings_part.Goals as goal

pub returns-then-is_pooled-clause-part : goal.returns-then-is_pooled-clause-part
returns-then-is_pooled-clause-part c = grind (arith, common_steps)
