-- `read_plan_by`: clauses `read` and `refused`.
use Rattle.std.proofs.Common.{arith, refl}
use Rattle.std.proofs.lemmas.Grind.{common_steps}
use Rattle.nms_lines.proofs.plan_reading.read_plan_by.Goals as goal

pub returns-in-Ok-clause-read : goal.returns-in-Ok-clause-read
returns-in-Ok-clause-read c = λ records all.
    c.read_records.ensures.read records (c.in-Ok.ensures.left c.args.text.now records refl all)

pub returns-in-Ok-clause-refused : goal.returns-in-Ok-clause-refused
returns-in-Ok-clause-refused c = λ records all bad.
    c.read_records.ensures.refused records (c.in-Ok.ensures.left c.args.text.now records refl all) bad

-- ---- goals that `grind` closes; the search that is tried before it takes longer

pub returns-in-Ok-clause-faults : goal.returns-in-Ok-clause-faults
returns-in-Ok-clause-faults c = grind (arith, common_steps)
