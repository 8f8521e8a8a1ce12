-- `rows_have_one_rank_order`: clauses `in_order` and `one`, by `rows_differ`, `ranked_in_order` and
-- `ranked_is`.
use Rattle.nms_board.specs.Quotation.{quotations}
use Rattle.nms_board.proofs.LawLemmas.{rows_differ}
use Rattle.nms_board.proofs.RankLemmas.{ranked_in_order, ranked_is}
use Rattle.nms_board.proofs.laws.rows_have_one_rank_order.Goals as goal

pub returns-clause-in_order : goal.returns-clause-in_order
returns-clause-in_order c = λ sizes tape s side. ranked_in_order side (quotations sizes tape s side) (rows_differ sizes tape s side)

pub returns-clause-one : goal.returns-clause-one
returns-clause-one c = ranked_is
