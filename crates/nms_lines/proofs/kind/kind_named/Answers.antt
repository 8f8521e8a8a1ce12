-- `kind_named`: goals that `grind` closes; the search that is tried before it takes longer.
use Rattle.std.proofs.Common.{arith}
use Rattle.std.proofs.lemmas.Grind.{common_steps}
use Rattle.nms_lines.proofs.kind.kind_named.Goals as goal

pub returns-in-len1 : goal.returns-in-len1
returns-in-len1 c = grind (arith, common_steps)

pub bounds-text-0 : goal.bounds-text-0
bounds-text-0 c = grind (arith, common_steps)
