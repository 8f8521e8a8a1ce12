-- `feed_named`: goals that `grind` closes; the search that is tried before it takes longer.
use Rattle.std.proofs.Common.{arith}
use Rattle.std.proofs.lemmas.Grind.{common_steps}
use Rattle.nms_fees.proofs.feed_name.feed_named.Goals as goal

pub returns-in-G : goal.returns-in-G
returns-in-G c = grind (arith, common_steps)

pub returns-in-H : goal.returns-in-H
returns-in-H c = grind (arith, common_steps)
