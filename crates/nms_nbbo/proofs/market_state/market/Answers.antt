-- `market`: all that it promises, by `market_of-best`.
use Rattle.std.proofs.Common.{◌∙◌}
use Rattle.nms_nbbo.proofs.RankingLemmas.{market_of-best}
use Rattle.nms_nbbo.proofs.market_state.market.Goals as goal

pub returns : goal.returns
returns c = λ bid offer b o. c.market_between.ensures
    ∙ market_of-best c.args.view.now.bids c.args.view.now.offers _ _ _ _ c.best.ensures b c.best-2.ensures o
