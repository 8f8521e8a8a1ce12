-- `tell`: goals that `grind` closes; the search that is tried before it takes longer.
use Rattle.std.proofs.Common.{arith}
use Rattle.std.proofs.lemmas.Grind.{common_steps}
use Rattle.nms_text.proofs.writing.tell.Goals as goal

pub returns-clause-written : goal.returns-clause-written
returns-clause-written g c = grind (arith, common_steps)

pub returns-then-is_empty-clause-written : goal.returns-then-is_empty-clause-written
returns-then-is_empty-clause-written g c = grind (arith, common_steps)
