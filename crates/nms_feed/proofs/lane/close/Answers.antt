-- `close`: goals that `grind` closes; the search that is tried before it takes longer.
use Rattle.std.proofs.Common.{arith}
use Rattle.std.proofs.lemmas.Grind.{common_steps}
use Rattle.nms_feed.proofs.lane.close.Goals as goal

pub join-requires-clause-taken : goal.join-requires-clause-taken
join-requires-clause-taken c = grind (arith, common_steps)

pub all_sent-requires : goal.all_sent-requires
all_sent-requires c = grind (arith, common_steps)

pub counts_of-sent-requires : goal.counts_of-sent-requires
counts_of-sent-requires c = grind (arith, common_steps)
