-- `receipt_is_least`: all that it promises, by `least`.
use Rattle.nms_board.proofs.LawLemmas.{receipt_is_least as least}
use Rattle.nms_board.proofs.laws.receipt_is_least.Goals as goal

pub returns : goal.returns
returns c = least
