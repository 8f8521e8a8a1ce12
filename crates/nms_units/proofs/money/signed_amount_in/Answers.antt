-- `signed_amount_in`: goals that `grind` closes; the search that is tried before it takes longer.
use Rattle.std.proofs.Common.{arith}
use Rattle.std.proofs.lemmas.Grind.{common_steps}
use Rattle.nms_units.proofs.money.signed_amount_in.Goals as goal

pub returns-in_err-number-in-45 : goal.returns-in_err-number-in-45
returns-in_err-number-in-45 c = grind (arith, common_steps)

pub overflow_sub-result : goal.overflow_sub-result
overflow_sub-result c = grind (arith, common_steps)

pub returns-in_ok-number-in-45 : goal.returns-in_ok-number-in-45
returns-in_ok-number-in-45 c = grind (arith, common_steps)
