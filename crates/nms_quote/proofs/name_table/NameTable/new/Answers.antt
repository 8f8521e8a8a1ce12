-- `new`: goals that `grind` closes; the search that is tried before it takes longer.
use Rattle.std.proofs.Common.{arith}
use Rattle.std.proofs.lemmas.Grind.{common_steps}
use Rattle.nms_quote.proofs.name_table.NameTable.new.Goals as goal

pub returns-clause-empty : goal.returns-clause-empty
returns-clause-empty g c = grind (arith, common_steps)
