-- `Boards::stands_for_a_tape`: the invariant of boards.
use Rattle.std.proofs.Common.{subst}
use Rattle.nms_board.specs.Cells.{IsBoard}
use Rattle.nms_board.proofs.board.Boards.stands_for_a_tape.Goals as goal

pub returns : goal.returns
returns c = subst IsBoard c.self.view_is c.self.invariant.0
