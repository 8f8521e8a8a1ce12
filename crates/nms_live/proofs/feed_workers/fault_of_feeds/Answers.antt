-- `fault_of_feeds`: goals that `grind` closes; the search that is tried before it takes longer.
use Rattle.std.proofs.Common.{arith}
use Rattle.std.proofs.lemmas.Grind.{common_steps}
use Rattle.nms_live.proofs.feed_workers.fault_of_feeds.Goals as goal

pub loop-back-preserved : goal.loop-back-preserved
loop-back-preserved c = grind (arith, common_steps)
