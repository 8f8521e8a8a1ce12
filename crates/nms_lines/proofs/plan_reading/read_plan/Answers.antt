-- `read_plan`: clauses `read` and `refused`.
use Rattle.std.proofs.Common.{arith, refl}
use Rattle.std.proofs.lemmas.Grind.{common_steps}
use Rattle.nms_lines.proofs.plan_reading.read_plan.Goals as goal

pub returns-clause-read : goal.returns-clause-read
returns-clause-read c = λ records all.
    c.read_records.ensures.read records (c.open_records-reader.ensures.left c.args.text.now records refl all)

pub returns-clause-refused : goal.returns-clause-refused
returns-clause-refused c = λ records all bad.
    c.read_records.ensures.refused records (c.open_records-reader.ensures.left c.args.text.now records refl all) bad

-- ---- goals that `grind` closes; the search that is tried before it takes longer

pub returns-clause-parts : goal.returns-clause-parts
returns-clause-parts c = grind (arith, common_steps)

pub returns-clause-faults : goal.returns-clause-faults
returns-clause-faults c = grind (arith, common_steps)

pub returns-clause-sym : goal.returns-clause-sym
returns-clause-sym c = grind (arith, common_steps)

pub returns-clause-self_help : goal.returns-clause-self_help
returns-clause-self_help c = grind (arith, common_steps)
