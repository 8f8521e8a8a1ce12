-- `row`: goals that `grind` closes; the search that is tried before it takes longer.
use Rattle.std.proofs.Common.{arith}
use Rattle.std.proofs.lemmas.Grind.{common_steps}
use Rattle.nms_board.proofs.board.Boards.row.Goals as goal

pub index-requires : goal.index-requires
index-requires c = grind (arith, common_steps)
