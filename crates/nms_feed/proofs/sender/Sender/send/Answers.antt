-- `send`: goals that `grind` closes; the search that is tried before it takes longer.
use Rattle.std.proofs.Common.{arith}
use Rattle.std.proofs.lemmas.Grind.{common_steps}
use Rattle.nms_feed.proofs.sender.Sender.send.Goals as goal

pub loop-preserved : goal.loop-preserved
loop-preserved g c = grind (arith, common_steps)

pub returns-then-is_ok : goal.returns-then-is_ok
returns-then-is_ok g c = grind (arith, common_steps)

pub try_send-requires : goal.try_send-requires
try_send-requires g c = grind (arith, common_steps)
