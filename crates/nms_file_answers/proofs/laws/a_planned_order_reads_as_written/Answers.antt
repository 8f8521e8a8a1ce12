-- `a_planned_order_reads_as_written`: goals that `grind` closes; the search that is tried before it takes longer.
use Rattle.std.proofs.Common.{arith}
use Rattle.std.proofs.lemmas.Grind.{common_steps}
use Rattle.nms_file_answers.proofs.laws.a_planned_order_reads_as_written.Goals as goal

pub returns-clause-read : goal.returns-clause-read
returns-clause-read c = grind (arith, common_steps)
