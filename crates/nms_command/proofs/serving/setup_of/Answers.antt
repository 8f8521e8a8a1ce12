-- `setup_of`: goals that `grind` closes; the search that is tried before it takes longer.
use Rattle.std.proofs.Common.{arith}
use Rattle.std.proofs.lemmas.Grind.{common_steps}
use Rattle.nms_command.proofs.serving.setup_of.Goals as goal

pub returns-in_err-bytes-clause-refused : goal.returns-in_err-bytes-clause-refused
returns-in_err-bytes-clause-refused g c = grind (arith, common_steps)

pub returns-clause-said : goal.returns-clause-said
returns-clause-said g c = grind (arith, common_steps)

pub returns-in_default-clause-refused : goal.returns-in_default-clause-refused
returns-in_default-clause-refused g c = grind (arith, common_steps)
