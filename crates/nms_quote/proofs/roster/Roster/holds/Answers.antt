-- `holds`: goals that `grind` closes; the search that is tried before it takes longer.
use Rattle.std.proofs.Common.{arith}
use Rattle.std.proofs.lemmas.Grind.{common_steps}
use Rattle.nms_quote.proofs.roster.Roster.holds.Goals as goal

pub returns-then-has_part : goal.returns-then-has_part
returns-then-has_part c = grind (arith, common_steps)

pub returns-in-Lot : goal.returns-in-Lot
returns-in-Lot c = grind (arith, common_steps)
