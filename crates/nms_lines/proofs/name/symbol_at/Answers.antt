-- `symbol_at`: goals that `grind` closes; the search that is tried before it takes longer.
use Rattle.std.proofs.Common.{arith}
use Rattle.std.proofs.lemmas.Grind.{common_steps}
use Rattle.nms_lines.proofs.name.symbol_at.Goals as goal

pub returns-clause-there : goal.returns-clause-there
returns-clause-there c = grind (arith, common_steps)
