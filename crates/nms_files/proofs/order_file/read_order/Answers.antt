-- `read_order`: goals that `grind` closes; the search that is tried before it takes longer.
use Rattle.std.proofs.Common.{arith}
use Rattle.std.proofs.lemmas.Grind.{common_steps}
use Rattle.nms_files.proofs.order_file.read_order.Goals as goal

pub returns-in-Ok-Sweep-clause-there : goal.returns-in-Ok-Sweep-clause-there
returns-in-Ok-Sweep-clause-there c = grind (arith, common_steps)
