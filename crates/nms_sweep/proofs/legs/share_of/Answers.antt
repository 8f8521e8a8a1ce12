-- `share_of`: goals that `grind` closes; the search that is tried before it takes longer.
use Rattle.std.proofs.Common.{arith}
use Rattle.std.proofs.lemmas.Grind.{common_steps}
use Rattle.nms_sweep.proofs.legs.share_of.Goals as goal

pub returns-then-is_level-clause-share : goal.returns-then-is_level-clause-share
returns-then-is_level-clause-share c = grind (arith, common_steps)
