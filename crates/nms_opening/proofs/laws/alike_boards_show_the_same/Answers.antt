-- `alike_boards_show_the_same`: all that it promises, by `show_same` and `show_same_in`.
use Rattle.nms_opening.proofs.RowFacts.{show_same, show_same_in}
use Rattle.nms_opening.proofs.laws.alike_boards_show_the_same.Goals as goal

pub returns : goal.returns
returns c = record { now = show_same; in_any_lot = show_same_in }
