-- `is_beyond`: goals that `grind` closes; the search that is tried before it takes longer.
use Rattle.std.proofs.Common.{arith}
use Rattle.std.proofs.lemmas.Grind.{common_steps}
use Rattle.nms_scripts.proofs.through.is_beyond.Goals as goal

pub returns-else-bid-clause-offer : goal.returns-else-bid-clause-offer
returns-else-bid-clause-offer c = grind (arith, common_steps)

pub returns-else-bid-clause-bid : goal.returns-else-bid-clause-bid
returns-else-bid-clause-bid c = grind (arith, common_steps)

pub returns-then-bid-clause-bid : goal.returns-then-bid-clause-bid
returns-then-bid-clause-bid c = grind (arith, common_steps)

pub returns-then-bid-clause-offer : goal.returns-then-bid-clause-offer
returns-then-bid-clause-offer c = grind (arith, common_steps)
