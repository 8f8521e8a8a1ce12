-- `minus`: goals that `grind` closes; the search that is tried before it takes longer.
use Rattle.std.proofs.Common.{arith}
use Rattle.std.proofs.lemmas.Grind.{common_steps}
use Rattle.nms_rules.proofs.cutoff.minus.Goals as goal

pub overflow_sub-get : goal.overflow_sub-get
overflow_sub-get c = grind (arith, common_steps)

pub returns : goal.returns
returns c = grind (arith, common_steps)
