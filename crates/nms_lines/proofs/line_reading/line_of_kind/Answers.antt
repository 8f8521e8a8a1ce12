-- `line_of_kind`: goals that `grind` closes; the search that is tried before it takes longer.
use Rattle.std.proofs.Common.{arith}
use Rattle.std.proofs.lemmas.Grind.{common_steps}
use Rattle.nms_lines.proofs.line_reading.line_of_kind.Goals as goal

pub returns-in-State-clause-of : goal.returns-in-State-clause-of
returns-in-State-clause-of c = grind (arith, common_steps)

pub returns-in-Through-clause-of : goal.returns-in-Through-clause-of
returns-in-Through-clause-of c = grind (arith, common_steps)

pub returns-in-Lot-clause-of : goal.returns-in-Lot-clause-of
returns-in-Lot-clause-of c = grind (arith, common_steps)

pub returns-in-Withdraw-clause-of : goal.returns-in-Withdraw-clause-of
returns-in-Withdraw-clause-of c = grind (arith, common_steps)

pub returns-in-Best-clause-of : goal.returns-in-Best-clause-of
returns-in-Best-clause-of c = grind (arith, common_steps)

pub returns-in-Sweep-clause-of : goal.returns-in-Sweep-clause-of
returns-in-Sweep-clause-of c = grind (arith, common_steps)

pub returns-in-Quote-clause-of : goal.returns-in-Quote-clause-of
returns-in-Quote-clause-of c = grind (arith, common_steps)

pub returns-in-Tell-clause-of : goal.returns-in-Tell-clause-of
returns-in-Tell-clause-of c = grind (arith, common_steps)
