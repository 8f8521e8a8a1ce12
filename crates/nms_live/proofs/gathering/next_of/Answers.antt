-- `next_of`: goals that `grind` closes; the search that is tried before it takes longer.
use Rattle.std.proofs.Common.{arith}
use Rattle.std.proofs.lemmas.Grind.{common_steps}
use Rattle.nms_live.proofs.gathering.next_of.Goals as goal

pub returns-clause-others : goal.returns-clause-others
returns-clause-others c = grind (arith, common_steps)

pub take_next-requires-clause-some : goal.take_next-requires-clause-some
take_next-requires-clause-some c = grind (arith, common_steps)

pub take_next-requires-clause-closing : goal.take_next-requires-clause-closing
take_next-requires-clause-closing c = grind (arith, common_steps)
