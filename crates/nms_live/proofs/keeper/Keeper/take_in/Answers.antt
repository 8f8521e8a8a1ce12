-- `take_in`: goals that `grind` closes; the search that is tried before it takes longer.
use Rattle.std.proofs.Common.{arith}
use Rattle.std.proofs.lemmas.Grind.{common_steps}
use Rattle.nms_live.proofs.keeper.Keeper.take_in.Goals as goal

pub invariant_of-self-then-self-lt-MOST_WAITING : goal.invariant_of-self-then-self-lt-MOST_WAITING
invariant_of-self-then-self-lt-MOST_WAITING g c = grind (arith, common_steps)

pub returns-then-self-lt-MOST_WAITING-clause-taken : goal.returns-then-self-lt-MOST_WAITING-clause-taken
returns-then-self-lt-MOST_WAITING-clause-taken g c = grind (arith, common_steps)

pub returns-else-self-lt-MOST_WAITING-clause-same : goal.returns-else-self-lt-MOST_WAITING-clause-same
returns-else-self-lt-MOST_WAITING-clause-same g c = grind (arith, common_steps)
