-- `send_record`: goals that `grind` closes; the search that is tried before it takes longer.
use Rattle.std.proofs.Common.{arith}
use Rattle.std.proofs.lemmas.Grind.{common_steps}
use Rattle.nms_live.proofs.fed_feed.send_record.Goals as goal

pub send-requires : goal.send-requires
send-requires g c = grind (arith, common_steps)

pub returns-clause-sent : goal.returns-clause-sent
returns-clause-sent g c = grind (arith, common_steps)

pub returns-clause-same : goal.returns-clause-same
returns-clause-same g c = grind (arith, common_steps)
