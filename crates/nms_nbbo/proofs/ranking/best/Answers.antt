-- `best`: all that it promises, by `first_is_best`.
use Rattle.nms_nbbo.proofs.RankingLemmas.{first_is_best}
use Rattle.nms_nbbo.proofs.ranking.best.Goals as goal

pub returns : goal.returns
returns c = first_is_best c.args.side _ c.ranked.result c.ranked.ensures.ranked c.ranked.ensures.there
