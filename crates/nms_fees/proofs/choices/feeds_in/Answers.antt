-- `feeds_in`: goals that `grind` closes; the search that is tried before it takes longer.
use Rattle.std.proofs.Common.{arith}
use Rattle.std.proofs.lemmas.Grind.{common_steps}
use Rattle.nms_fees.proofs.choices.feeds_in.Goals as goal

pub returns-in-Some-feeds_of : goal.returns-in-Some-feeds_of
returns-in-Some-feeds_of c = grind (arith, common_steps)

pub returns-in-None : goal.returns-in-None
returns-in-None c = grind (arith, common_steps)

pub returns-in_default : goal.returns-in_default
returns-in_default c = grind (arith, common_steps)

pub returns-in_default-as_integer : goal.returns-in_default-as_integer
returns-in_default-as_integer c = grind (arith, common_steps)
