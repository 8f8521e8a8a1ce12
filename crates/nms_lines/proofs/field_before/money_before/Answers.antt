-- `money_before`: goals that `grind` closes; the search that is tried before it takes longer.
use Rattle.std.proofs.Common.{arith}
use Rattle.std.proofs.lemmas.Grind.{common_steps}
use Rattle.nms_lines.proofs.field_before.money_before.Goals as goal

pub returns-else-number-lt0-clause-written : goal.returns-else-number-lt0-clause-written
returns-else-number-lt0-clause-written c = grind (arith, common_steps)

pub returns-then-number-lt0-clause-before : goal.returns-then-number-lt0-clause-before
returns-then-number-lt0-clause-before c = grind (arith, common_steps)

pub returns-else-number-lt0-clause-before : goal.returns-else-number-lt0-clause-before
returns-else-number-lt0-clause-before c = grind (arith, common_steps)

pub returns-then-number-lt0-clause-start : goal.returns-then-number-lt0-clause-start
returns-then-number-lt0-clause-start c = grind (arith, common_steps)
