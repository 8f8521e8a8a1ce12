-- `append_end`: goals that `grind` closes; the search that is tried before it takes longer.
use Rattle.std.proofs.Common.{arith}
use Rattle.std.proofs.lemmas.Grind.{common_steps}
use Rattle.nms_lines.proofs.plan_writing.append_end.Goals as goal

pub returns : goal.returns
returns c = grind (arith, common_steps)
