-- `name_of_sym`: goals that `grind` closes; the search that is tried before it takes longer.
use Rattle.std.proofs.Common.{arith}
use Rattle.std.proofs.lemmas.Grind.{common_steps}
use Rattle.nms_lines.proofs.plan_writing.name_of_sym.Goals as goal

pub returns-then-has_sym-clause-short : goal.returns-then-has_sym-clause-short
returns-then-has_sym-clause-short c = grind (arith, common_steps)

pub sym_name-requires : goal.sym_name-requires
sym_name-requires c = grind (arith, common_steps)
