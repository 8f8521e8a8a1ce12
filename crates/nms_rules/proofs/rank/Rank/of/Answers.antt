-- `of`: goals that `grind` closes; the search that is tried before it takes longer.
use Rattle.std.proofs.Common.{arith}
use Rattle.std.proofs.lemmas.Grind.{common_steps}
use Rattle.nms_rules.proofs.rank.Rank.of.Goals as goal

pub returns-in-Sell : goal.returns-in-Sell
returns-in-Sell c = grind (arith, common_steps)
