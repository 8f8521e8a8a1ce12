-- `other_symbols_stay`: all that it promises, by `rows_stay`.
use Rattle.nms_board.proofs.BoardLemmas.{rows_stay}
use Rattle.nms_board.proofs.laws.other_symbols_stay.Goals as goal

pub returns : goal.returns
returns c = rows_stay
