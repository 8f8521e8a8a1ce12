-- `read_feed`: goals that `grind` closes; the search that is tried before it takes longer.
use Rattle.std.proofs.Common.{arith}
use Rattle.std.proofs.lemmas.Grind.{common_steps}
use Rattle.nms_command.proofs.live_input.read_feed.Goals as goal

pub returns-in-Err-clause-refused : goal.returns-in-Err-clause-refused
returns-in-Err-clause-refused g c = grind (arith, common_steps)

pub returns-in-Ok-read_within-clause-refused : goal.returns-in-Ok-read_within-clause-refused
returns-in-Ok-read_within-clause-refused g c = grind (arith, common_steps)

pub returns-in-Err-clause-within : goal.returns-in-Err-clause-within
returns-in-Err-clause-within g c = grind (arith, common_steps)

pub returns-in-Ok-read_within-clause-within : goal.returns-in-Ok-read_within-clause-within
returns-in-Ok-read_within-clause-within g c = grind (arith, common_steps)

pub returns-in-Err-read_within-clause-refused : goal.returns-in-Err-read_within-clause-refused
returns-in-Err-read_within-clause-refused g c = grind (arith, common_steps)

pub returns-in-Err-read_within-clause-within : goal.returns-in-Err-read_within-clause-within
returns-in-Err-read_within-clause-within g c = grind (arith, common_steps)
