-- `one_best_row`: all that it promises, by `rows_differ` and `one_best`.
use Rattle.nms_board.proofs.Offered.{rows_differ}
use Rattle.nms_board.specs.Quotation.{quotations}
use Rattle.nms_nbbo.proofs.RankingLemmas.{one_best}
use Rattle.nms_nbbo.proofs.laws.one_best_row.Goals as goal

pub returns : goal.returns
returns c = λ sizes tape s side row other best best'. one_best side (quotations sizes tape s side) row other (rows_differ sizes tape s side)
    best best'
