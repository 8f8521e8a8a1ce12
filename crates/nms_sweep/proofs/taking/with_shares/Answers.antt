-- `with_shares`: goals that `grind` closes; the search that is tried before it takes longer.
use Rattle.std.proofs.Common.{arith}
use Rattle.std.proofs.lemmas.Grind.{common_steps}
use Rattle.nms_sweep.proofs.taking.with_shares.Goals as goal

pub plus-requires-clause-low : goal.plus-requires-clause-low
plus-requires-clause-low c = grind (arith, common_steps)

pub plus-requires-clause-high : goal.plus-requires-clause-high
plus-requires-clause-high c = grind (arith, common_steps)
