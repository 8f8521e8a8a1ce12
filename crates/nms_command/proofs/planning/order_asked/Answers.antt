-- `order_asked`: goals that `grind` closes.
use Rattle.std.proofs.Common.{arith}
use Rattle.std.proofs.lemmas.Grind.{common_steps}
use Rattle.nms_command.proofs.planning.order_asked.Goals as goal

pub returns-clause-asked : goal.returns-clause-asked
returns-clause-asked c = grind (arith, common_steps)

-- ---- goals that `grind` closes; the search that is tried before it takes longer

pub bounds-side-1 : goal.bounds-side-1
bounds-side-1 c = grind (arith, common_steps)

pub bounds-shares-3 : goal.bounds-shares-3
bounds-shares-3 c = grind (arith, common_steps)

pub bounds-sym-2 : goal.bounds-sym-2
bounds-sym-2 c = grind (arith, common_steps)

pub bounds-limit-4 : goal.bounds-limit-4
bounds-limit-4 c = grind (arith, common_steps)
