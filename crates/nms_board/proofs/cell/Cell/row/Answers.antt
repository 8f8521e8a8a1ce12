-- `row`: goals that `grind` closes; the search that is tried before it takes longer.
use Rattle.std.proofs.Common.{arith}
use Rattle.std.proofs.lemmas.Grind.{common_steps}
use Rattle.nms_board.proofs.cell.Cell.row.Goals as goal

pub returns : goal.returns
returns c = grind (arith, common_steps)

pub returns-then-size-eq0 : goal.returns-then-size-eq0
returns-then-size-eq0 c = grind (arith, common_steps)
