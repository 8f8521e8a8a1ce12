-- `run_in_threads`, clause `fault`: it is the last of the clauses of what the scope ran, which are in their order.
use Rattle.std.proofs.Common.{arith}
use Rattle.std.proofs.lemmas.Grind.{common_steps}
use Rattle.nms_live.proofs.workers.run_in_threads.Goals as goal

pub returns-clause-fault : goal.returns-clause-fault
returns-clause-fault g c = c.scoped-back.ensures.1.1.1.1

-- ---- goals that `grind` closes; the search that is tried before it takes longer

pub scoped-back-requires : goal.scoped-back-requires
scoped-back-requires g c = grind (arith, common_steps)

pub returns-clause-done : goal.returns-clause-done
returns-clause-done g c = grind (arith, common_steps)
