-- `start_feed`: goals that `grind` closes; the search that is tried before it takes longer.
use Rattle.std.proofs.Common.{arith}
use Rattle.std.proofs.lemmas.Grind.{common_steps}
use Rattle.nms_live.proofs.feed_workers.start_feed.Goals as goal

pub returns : goal.returns
returns g c = grind (arith, common_steps)

pub spawn_with-requires-clause-keeps : goal.spawn_with-requires-clause-keeps
spawn_with-requires-clause-keeps g c = grind (arith, common_steps)
