-- `named_at`: goals that `grind` closes; the search that is tried before it takes longer.
use Rattle.std.proofs.Common.{arith}
use Rattle.std.proofs.lemmas.Grind.{common_steps}
use Rattle.nms_lines.proofs.named.named_at.Goals as goal

pub returns-then-len-place-clause-there : goal.returns-then-len-place-clause-there
returns-then-len-place-clause-there c = grind (arith, common_steps)
