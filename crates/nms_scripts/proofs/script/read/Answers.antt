-- `read`: goals that `grind` closes; the search that is tried before it takes longer.
use Rattle.std.proofs.Common.{arith}
use Rattle.std.proofs.lemmas.Grind.{common_steps}
use Rattle.nms_scripts.proofs.script.read.Goals as goal

pub returns-in-Err-Failed-clause-found : goal.returns-in-Err-Failed-clause-found
returns-in-Err-Failed-clause-found g c = grind (arith, common_steps)

pub returns-in-Err-NoMemory-clause-found : goal.returns-in-Err-NoMemory-clause-found
returns-in-Err-NoMemory-clause-found g c = grind (arith, common_steps)

pub returns-in-Ok-clause-found : goal.returns-in-Ok-clause-found
returns-in-Ok-clause-found g c = grind (arith, common_steps)

pub returns-in-Ok-clause-end : goal.returns-in-Ok-clause-end
returns-in-Ok-clause-end g c = grind (arith, common_steps)
