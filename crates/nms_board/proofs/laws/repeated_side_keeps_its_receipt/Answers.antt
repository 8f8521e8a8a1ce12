-- `repeated_side_keeps_its_receipt`: all that it promises, by `repeat_keeps`.
use Rattle.nms_board.proofs.LawLemmas.{repeat_keeps}
use Rattle.nms_board.proofs.laws.repeated_side_keeps_its_receipt.Goals as goal

pub returns : goal.returns
returns c = repeat_keeps
