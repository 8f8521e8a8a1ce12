-- `some_row_is_best`: clause `some`, by `some_best`.
use Rattle.nms_nbbo.proofs.RankingLemmas.{some_best}
use Rattle.nms_nbbo.proofs.laws.some_row_is_best.Goals as goal

pub returns-clause-some : goal.returns-clause-some
returns-clause-some c = some_best
