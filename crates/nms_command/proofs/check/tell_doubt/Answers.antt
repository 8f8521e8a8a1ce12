-- `tell_doubt`: goals that `grind` closes.
use Rattle.std.proofs.Common.{arith}
use Rattle.std.proofs.lemmas.Grind.{common_steps}
use Rattle.nms_command.proofs.check.tell_doubt.Goals as goal

pub returns-in-Breach-clause-told : goal.returns-in-Breach-clause-told
returns-in-Breach-clause-told g c = grind (arith, common_steps)

pub returns-in-Breach-clause-cut : goal.returns-in-Breach-clause-cut
returns-in-Breach-clause-cut g c = grind (arith, common_steps)
