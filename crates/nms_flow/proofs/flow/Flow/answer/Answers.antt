-- `Flow::answer`: clause `went`.
use Rattle.std.proofs.Common.{arith}
use Rattle.std.proofs.lemmas.Grind.{common_steps}
use Rattle.nms_flow.proofs.flow.Flow.answer.Goals as goal

pub returns-in-Look-clause-went : goal.returns-in-Look-clause-went
returns-in-Look-clause-went c = rw c.in-Look.is (c.look.ensures.went c.in-Look.desk)

-- ---- goals that `grind` closes; the search that is tried before it takes longer

pub returns-in-Tell-clause-shape : goal.returns-in-Tell-clause-shape
returns-in-Tell-clause-shape c = grind (arith, common_steps)

pub returns-in-Ok-clause-went : goal.returns-in-Ok-clause-went
returns-in-Ok-clause-went c = grind (arith, common_steps)

pub returns-in-Ok-take-clause-went : goal.returns-in-Ok-take-clause-went
returns-in-Ok-take-clause-went c = grind (arith, common_steps)

pub returns-in-Look-clause-shape : goal.returns-in-Look-clause-shape
returns-in-Look-clause-shape c = grind (arith, common_steps)

pub returns-in-Ok-take-clause-shape : goal.returns-in-Ok-take-clause-shape
returns-in-Ok-take-clause-shape c = grind (arith, common_steps)

pub returns-in-Tell-clause-went : goal.returns-in-Tell-clause-went
returns-in-Tell-clause-went c = grind (arith, common_steps)

pub returns-in-Publish-clause-shape : goal.returns-in-Publish-clause-shape
returns-in-Publish-clause-shape c = grind (arith, common_steps)

pub returns-in-Ok-clause-shape : goal.returns-in-Ok-clause-shape
returns-in-Ok-clause-shape c = grind (arith, common_steps)

pub returns-in-Err-clause-went : goal.returns-in-Err-clause-went
returns-in-Err-clause-went c = grind (arith, common_steps)

pub returns-in-Err-clause-shape : goal.returns-in-Err-clause-shape
returns-in-Err-clause-shape c = grind (arith, common_steps)

pub returns-in-Publish-clause-went : goal.returns-in-Publish-clause-went
returns-in-Publish-clause-went c = grind (arith, common_steps)

pub returns-in-Err-take-clause-shape : goal.returns-in-Err-take-clause-shape
returns-in-Err-take-clause-shape c = grind (arith, common_steps)

pub returns-in-Err-take-clause-went : goal.returns-in-Err-take-clause-went
returns-in-Err-take-clause-went c = grind (arith, common_steps)
