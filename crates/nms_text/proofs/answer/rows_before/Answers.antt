-- `rows_before`: goals that `grind` closes; the search that is tried before it takes longer.
use Rattle.std.proofs.Common.{arith}
use Rattle.std.proofs.lemmas.Grind.{common_steps}
use Rattle.nms_text.proofs.answer.rows_before.Goals as goal

pub returns-clause-written : goal.returns-clause-written
returns-clause-written c = grind (arith, common_steps)

pub row_before-requires-clause-within : goal.row_before-requires-clause-within
row_before-requires-clause-within c = grind (arith, common_steps)
