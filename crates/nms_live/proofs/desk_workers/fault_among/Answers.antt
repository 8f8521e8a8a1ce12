-- `fault_among`: goals that `grind` closes; the search that is tried before it takes longer.
use Rattle.std.proofs.Common.{arith}
use Rattle.std.proofs.lemmas.Grind.{common_steps}
use Rattle.nms_live.proofs.desk_workers.fault_among.Goals as goal

pub loop-desk-init : goal.loop-desk-init
loop-desk-init c = grind (arith, common_steps)

pub loop-desk-preserved : goal.loop-desk-preserved
loop-desk-preserved c = grind (arith, common_steps)

pub returns-clause-first : goal.returns-clause-first
returns-clause-first c = grind (arith, common_steps)
