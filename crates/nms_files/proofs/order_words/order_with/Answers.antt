-- `order_with`: goals that `grind` closes; the search that is tried before it takes longer.
use Rattle.std.proofs.Common.{arith}
use Rattle.std.proofs.lemmas.Grind.{common_steps}
use Rattle.nms_files.proofs.order_words.order_with.Goals as goal

pub returns-in_err-limit-clause-there : goal.returns-in_err-limit-clause-there
returns-in_err-limit-clause-there c = grind (arith, common_steps)

pub returns-in_err-side-clause-order : goal.returns-in_err-side-clause-order
returns-in_err-side-clause-order c = grind (arith, common_steps)

pub returns-in_err-limit-clause-named : goal.returns-in_err-limit-clause-named
returns-in_err-limit-clause-named c = grind (arith, common_steps)

pub returns-in_err-sym-clause-there : goal.returns-in_err-sym-clause-there
returns-in_err-sym-clause-there c = grind (arith, common_steps)

pub returns-clause-there : goal.returns-clause-there
returns-clause-there c = grind (arith, common_steps)

pub returns-in_err-limit-clause-order : goal.returns-in_err-limit-clause-order
returns-in_err-limit-clause-order c = grind (arith, common_steps)

pub returns-in_err-side-clause-named : goal.returns-in_err-side-clause-named
returns-in_err-side-clause-named c = grind (arith, common_steps)

pub returns-in_err-shares-clause-there : goal.returns-in_err-shares-clause-there
returns-in_err-shares-clause-there c = grind (arith, common_steps)

pub returns-in_err-sym-clause-named : goal.returns-in_err-sym-clause-named
returns-in_err-sym-clause-named c = grind (arith, common_steps)

pub returns-in_err-shares-clause-named : goal.returns-in_err-shares-clause-named
returns-in_err-shares-clause-named c = grind (arith, common_steps)

pub returns-clause-named : goal.returns-clause-named
returns-clause-named c = grind (arith, common_steps)

pub returns-in_err-shares-clause-order : goal.returns-in_err-shares-clause-order
returns-in_err-shares-clause-order c = grind (arith, common_steps)

pub returns-in_err-side-clause-there : goal.returns-in_err-side-clause-there
returns-in_err-side-clause-there c = grind (arith, common_steps)
