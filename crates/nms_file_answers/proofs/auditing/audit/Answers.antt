-- `audit`: goals that `grind` closes; the search that is tried before it takes longer.
use Rattle.std.proofs.Common.{arith}
use Rattle.std.proofs.lemmas.Grind.{common_steps}
use Rattle.nms_file_answers.proofs.auditing.audit.Goals as goal

pub view_after-requires-clause-held : goal.view_after-requires-clause-held
view_after-requires-clause-held c = grind (arith, common_steps)

pub returns-in-Ok-confirm-clause-best : goal.returns-in-Ok-confirm-clause-best
returns-in-Ok-confirm-clause-best c = grind (arith, common_steps)

pub returns-clause-found : goal.returns-clause-found
returns-clause-found c = grind (arith, common_steps)

pub view_after-requires-clause-sym : goal.view_after-requires-clause-sym
view_after-requires-clause-sym c = grind (arith, common_steps)

pub returns-in-Ok-confirm-clause-found : goal.returns-in-Ok-confirm-clause-found
returns-in-Ok-confirm-clause-found c = grind (arith, common_steps)
