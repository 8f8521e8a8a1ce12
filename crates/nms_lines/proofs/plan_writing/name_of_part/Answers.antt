-- `name_of_part`: goals that `grind` closes; the search that is tried before it takes longer.
use Rattle.std.proofs.Common.{arith}
use Rattle.std.proofs.lemmas.Grind.{common_steps}
use Rattle.nms_lines.proofs.plan_writing.name_of_part.Goals as goal

pub returns-then-from-parts-clause-short : goal.returns-then-from-parts-clause-short
returns-then-from-parts-clause-short c = grind (arith, common_steps)
