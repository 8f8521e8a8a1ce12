-- `any_decimals_in`: goals that `grind` closes; the search that is tried before it takes longer.
use Rattle.std.proofs.Common.{arith}
use Rattle.std.proofs.lemmas.Grind.{common_steps}
use Rattle.nms_units.proofs.price.any_decimals_in.Goals as goal

pub returns-in_ok-behind-in-Some-clause-number : goal.returns-in_ok-behind-in-Some-clause-number
returns-in_ok-behind-in-Some-clause-number c = grind (arith, common_steps)

pub returns-in_err-behind-in-Some-clause-number : goal.returns-in_err-behind-in-Some-clause-number
returns-in_err-behind-in-Some-clause-number c = grind (arith, common_steps)

pub returns-in_err-behind-in-Some-clause-high : goal.returns-in_err-behind-in-Some-clause-high
returns-in_err-behind-in-Some-clause-high c = grind (arith, common_steps)
