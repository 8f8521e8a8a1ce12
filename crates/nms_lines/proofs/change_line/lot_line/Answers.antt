-- `lot_line`: goals that `grind` closes; the search that is tried before it takes longer.
use Rattle.std.proofs.Common.{arith}
use Rattle.std.proofs.lemmas.Grind.{common_steps}
use Rattle.nms_lines.proofs.change_line.lot_line.Goals as goal

pub returns-clause-of : goal.returns-clause-of
returns-clause-of c = grind (arith, common_steps)

pub returns-clause-line : goal.returns-clause-line
returns-clause-line c = grind (arith, common_steps)

pub returns-then-is_foreign-clause-line : goal.returns-then-is_foreign-clause-line
returns-then-is_foreign-clause-line c = grind (arith, common_steps)
