-- `flag_of`: goals that `grind` closes; the search that is tried before it takes longer.
use Rattle.std.proofs.Common.{arith}
use Rattle.std.proofs.lemmas.Grind.{common_steps}
use Rattle.nms_lines.proofs.letter.flag_of.Goals as goal

pub returns-in-M : goal.returns-in-M
returns-in-M c = grind (arith, common_steps)

pub bounds-flag-0 : goal.bounds-flag-0
bounds-flag-0 c = grind (arith, common_steps)
