-- `array_fault`: goals that `grind` closes; the search that is tried before it takes longer.
use Rattle.std.proofs.Common.{arith}
use Rattle.std.proofs.lemmas.Grind.{common_steps}
use Rattle.nms_fees.proofs.check.array_fault.Goals as goal

pub returns-in-Some-rows_in-clause-found : goal.returns-in-Some-rows_in-clause-found
returns-in-Some-rows_in-clause-found c = grind (arith, common_steps)

pub returns-in-Some-rows_in-clause-memory : goal.returns-in-Some-rows_in-clause-memory
returns-in-Some-rows_in-clause-memory c = grind (arith, common_steps)

pub returns-in-None-rows_in-clause-found : goal.returns-in-None-rows_in-clause-found
returns-in-None-rows_in-clause-found c = grind (arith, common_steps)

pub returns-in-None-clause-found : goal.returns-in-None-clause-found
returns-in-None-clause-found c = grind (arith, common_steps)
