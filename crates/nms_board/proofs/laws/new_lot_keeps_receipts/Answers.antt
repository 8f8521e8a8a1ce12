-- `new_lot_keeps_receipts`: all that it promises, by `new_lot_keeps`.
use Rattle.nms_board.proofs.LawLemmas.{new_lot_keeps}
use Rattle.nms_board.proofs.laws.new_lot_keeps_receipts.Goals as goal

pub returns : goal.returns
returns c = new_lot_keeps
