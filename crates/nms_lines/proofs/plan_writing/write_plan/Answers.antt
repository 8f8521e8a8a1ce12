-- `write_plan`: goals that `grind` closes; the search that is tried before it takes longer.
use Rattle.std.proofs.Common.{arith}
use Rattle.std.proofs.lemmas.Grind.{common_steps}
use Rattle.nms_lines.proofs.plan_writing.write_plan.Goals as goal

pub returns-in-Ok-write_text-clause-written : goal.returns-in-Ok-write_text-clause-written
returns-in-Ok-write_text-clause-written g c = grind (arith, common_steps)

pub returns-in-Ok-write_text-clause-cut : goal.returns-in-Ok-write_text-clause-cut
returns-in-Ok-write_text-clause-cut g c = grind (arith, common_steps)

pub returns-clause-cut : goal.returns-clause-cut
returns-clause-cut g c = grind (arith, common_steps)

pub returns-in_default-clause-cut : goal.returns-in_default-clause-cut
returns-in_default-clause-cut g c = grind (arith, common_steps)

pub returns-in-Ok-write_text-clause-unwritten : goal.returns-in-Ok-write_text-clause-unwritten
returns-in-Ok-write_text-clause-unwritten g c = grind (arith, common_steps)

pub returns-clause-faults : goal.returns-clause-faults
returns-clause-faults g c = grind (arith, common_steps)

pub returns-in-Ok-write_text-clause-faults : goal.returns-in-Ok-write_text-clause-faults
returns-in-Ok-write_text-clause-faults g c = grind (arith, common_steps)

pub returns-clause-unwritten : goal.returns-clause-unwritten
returns-clause-unwritten g c = grind (arith, common_steps)
