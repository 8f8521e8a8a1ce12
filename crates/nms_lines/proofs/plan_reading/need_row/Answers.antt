-- `need_row`: clause `refused`.
use Rattle.std.proofs.Common.{arith, Bool, Ok, ap}
use Rattle.std.proofs.lemmas.Grind.{common_steps}
use Rattle.nms_lines.proofs.plan_reading.need_row.Goals as goal

pub returns-in-Ok-false-clause-refused : goal.returns-in-Ok-false-clause-refused
returns-in-Ok-false-clause-refused g c =
    λ left was bad. c.in-Ok-false.ensures.none left was (ap (λ (found : Bool). Ok found) c.in-Ok-false.field-0-test)

-- ---- goals that `grind` closes; the search that is tried before it takes longer

pub returns-in-Err-Failed-clause-read : goal.returns-in-Err-Failed-clause-read
returns-in-Err-Failed-clause-read g c = grind (arith, common_steps)

pub returns-in-Ok-false-clause-read : goal.returns-in-Ok-false-clause-read
returns-in-Ok-false-clause-read g c = grind (arith, common_steps)

pub returns-in-Ok-true-clause-read : goal.returns-in-Ok-true-clause-read
returns-in-Ok-true-clause-read g c = grind (arith, common_steps)

pub returns-in-Err-Failed-clause-faults : goal.returns-in-Err-Failed-clause-faults
returns-in-Err-Failed-clause-faults g c = grind (arith, common_steps)

pub returns-in-Ok-false-clause-faults : goal.returns-in-Ok-false-clause-faults
returns-in-Ok-false-clause-faults g c = grind (arith, common_steps)

pub returns-in-Ok-true-clause-faults : goal.returns-in-Ok-true-clause-faults
returns-in-Ok-true-clause-faults g c = grind (arith, common_steps)
