-- `quotations_stand_by_participant`: all that it promises, by `quotations_are_rows`.
use Rattle.nms_board.proofs.RowLemmas.{quotations_are_rows}
use Rattle.nms_board.proofs.laws.quotations_stand_by_participant.Goals as goal

pub returns : goal.returns
returns c = quotations_are_rows
