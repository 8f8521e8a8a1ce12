-- `find_doubt`: goals that `grind` closes; the search that is tried before it takes longer.
use Rattle.std.proofs.Common.{arith}
use Rattle.std.proofs.lemmas.Grind.{common_steps}
use Rattle.nms_cert.proofs.confirming.find_doubt.Goals as goal

pub returns-clause-rising : goal.returns-clause-rising
returns-clause-rising c = grind (arith, common_steps)

pub returns-clause-lawful : goal.returns-clause-lawful
returns-clause-lawful c = grind (arith, common_steps)
