-- `a_rank_order_says_its_rows`: its clause, by `one_side`.
use Rattle.nms_board.proofs.GivenOnce.{one_side}
use Rattle.nms_board.proofs.laws.a_rank_order_says_its_rows.Goals as goal

pub returns : goal.returns
returns c = one_side
