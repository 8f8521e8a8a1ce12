-- `halting_hides_and_keeps`: all that it promises, by `hides_and_keeps`.
use Rattle.nms_board.proofs.LawLemmas.{halting_hides_and_keeps as hides_and_keeps}
use Rattle.nms_board.proofs.laws.halting_hides_and_keeps.Goals as goal

pub returns : goal.returns
returns c = hides_and_keeps
