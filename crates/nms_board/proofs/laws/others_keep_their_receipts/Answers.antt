-- `others_keep_their_receipts`: all that it promises, by `others_keep` and `unsaid_keeps`.
use Rattle.nms_board.proofs.LawLemmas.{others_keep, unsaid_keeps}
use Rattle.nms_board.proofs.laws.others_keep_their_receipts.Goals as goal

pub returns : goal.returns
returns c = record { unsaid = unsaid_keeps; others = others_keep }
