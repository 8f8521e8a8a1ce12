-- `read_feeds`: why a feed was not read is why they were not.
use Rattle.std.proofs.Common.{arith}
use Rattle.std.proofs.lemmas.Grind.{common_steps}
use Rattle.nms_command.proofs.live_input.read_feeds.Goals as goal

pub returns-in-Err-clause-refused : goal.returns-in-Err-clause-refused
returns-in-Err-clause-refused g c settings files = c.in-Err.ensures.refused settings files

pub loop-path-preserved : goal.loop-path-preserved
loop-path-preserved g c = grind (arith, common_steps)

-- ---- goals that `grind` closes; the search that is tried before it takes longer

pub returns-clause-within : goal.returns-clause-within
returns-clause-within g c = grind (arith, common_steps)

pub returns-in-Err-clause-feeds : goal.returns-in-Err-clause-feeds
returns-in-Err-clause-feeds g c = grind (arith, common_steps)

pub returns-in-Err-push-clause-feeds : goal.returns-in-Err-push-clause-feeds
returns-in-Err-push-clause-feeds g c = grind (arith, common_steps)

pub returns-in-Err-push-clause-within : goal.returns-in-Err-push-clause-within
returns-in-Err-push-clause-within g c = grind (arith, common_steps)

pub returns-in-Err-push-clause-refused : goal.returns-in-Err-push-clause-refused
returns-in-Err-push-clause-refused g c = grind (arith, common_steps)

pub returns-in-Err-clause-within : goal.returns-in-Err-clause-within
returns-in-Err-clause-within g c = grind (arith, common_steps)

pub returns-clause-feeds : goal.returns-clause-feeds
returns-clause-feeds g c = grind (arith, common_steps)
