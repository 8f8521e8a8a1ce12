-- `side_of`: goals that `grind` closes; the search that is tried before it takes longer.
use Rattle.std.proofs.Common.{arith}
use Rattle.std.proofs.lemmas.Grind.{common_steps}
use Rattle.nms_lines.proofs.letter.side_of.Goals as goal

pub returns-in-B : goal.returns-in-B
returns-in-B c = grind (arith, common_steps)

pub returns-in-S : goal.returns-in-S
returns-in-S c = grind (arith, common_steps)

pub bounds-text-0 : goal.bounds-text-0
bounds-text-0 c = grind (arith, common_steps)
