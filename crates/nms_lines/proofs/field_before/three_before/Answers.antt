-- `three_before`: goals that `grind` closes; the search that is tried before it takes longer.
use Rattle.std.proofs.Common.{arith}
use Rattle.std.proofs.lemmas.Grind.{common_steps}
use Rattle.nms_lines.proofs.field_before.three_before.Goals as goal

pub returns-clause-written : goal.returns-clause-written
returns-clause-written c = grind (arith, common_steps)

pub bounds-buf-end-3 : goal.bounds-buf-end-3
bounds-buf-end-3 c = grind (arith, common_steps)

pub bounds-buf-end-2 : goal.bounds-buf-end-2
bounds-buf-end-2 c = grind (arith, common_steps)
