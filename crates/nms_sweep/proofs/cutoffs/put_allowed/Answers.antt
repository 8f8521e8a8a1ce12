-- `put_allowed`: goals that `grind` closes; the search that is tried before it takes longer.
use Rattle.std.proofs.Common.{arith}
use Rattle.std.proofs.lemmas.Grind.{common_steps}
use Rattle.nms_sweep.proofs.cutoffs.put_allowed.Goals as goal

pub returns-then-is_allowed-clause-same : goal.returns-then-is_allowed-clause-same
returns-then-is_allowed-clause-same c = grind (arith, common_steps)
