-- `cut_senders`: goals that `grind` closes; the search that is tried before it takes longer.
use Rattle.std.proofs.Common.{arith}
use Rattle.std.proofs.lemmas.Grind.{common_steps}
use Rattle.nms_feed.proofs.lane.cut_senders.Goals as goal

pub loop-place-init : goal.loop-place-init
loop-place-init c = grind (arith, common_steps)
