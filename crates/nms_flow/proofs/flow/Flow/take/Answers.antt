-- `take`: goals that `grind` closes; the search that is tried before it takes longer.
use Rattle.std.proofs.Common.{arith}
use Rattle.std.proofs.lemmas.Grind.{common_steps}
use Rattle.nms_flow.proofs.flow.Flow.take.Goals as goal

pub returns-clause-sends_nothing : goal.returns-clause-sends_nothing
returns-clause-sends_nothing c = grind (arith, common_steps)

pub returns-then-is_err-clause-sends_nothing : goal.returns-then-is_err-clause-sends_nothing
returns-then-is_err-clause-sends_nothing c = grind (arith, common_steps)

pub returns-then-self-len-clause-went : goal.returns-then-self-len-clause-went
returns-then-self-len-clause-went c = grind (arith, common_steps)

pub returns-then-version-self-clause-went : goal.returns-then-version-self-clause-went
returns-then-version-self-clause-went c = grind (arith, common_steps)

pub returns-clause-within : goal.returns-clause-within
returns-clause-within c = grind (arith, common_steps)

pub returns-then-is_err-clause-went : goal.returns-then-is_err-clause-went
returns-then-is_err-clause-went c = grind (arith, common_steps)

pub returns-clause-went : goal.returns-clause-went
returns-clause-went c = grind (arith, common_steps)

pub returns-then-version-self-clause-sends_nothing : goal.returns-then-version-self-clause-sends_nothing
returns-then-version-self-clause-sends_nothing c = grind (arith, common_steps)

pub make_room-requires : goal.make_room-requires
make_room-requires c = grind (arith, common_steps)

pub returns-then-is_err-clause-unchanged : goal.returns-then-is_err-clause-unchanged
returns-then-is_err-clause-unchanged c = grind (arith, common_steps)

pub overflow_add-self : goal.overflow_add-self
overflow_add-self c = grind (arith, common_steps)

pub overflow_add-result : goal.overflow_add-result
overflow_add-result c = grind (arith, common_steps)

pub returns-clause-taken : goal.returns-clause-taken
returns-clause-taken c = grind (arith, common_steps)
