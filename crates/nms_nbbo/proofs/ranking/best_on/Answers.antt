-- `best_on`: clause `best`, by `first_is_best`.
use Rattle.nms_nbbo.proofs.RankingLemmas.{first_is_best}
use Rattle.nms_nbbo.proofs.ranking.best_on.Goals as goal

pub returns-clause-best : goal.returns-clause-best
returns-clause-best c = first_is_best c.args.side _ c.best.result c.best.ensures.best c.best.ensures.there
