-- `a_whole_price_decides`: by `bid_decides` and `offer_decides`.
use Rattle.nms_trades.proofs.WholeFacts.{bid_decides, offer_decides}
use Rattle.nms_trades.proofs.laws.a_whole_price_decides.Goals as goal

pub returns : goal.returns
returns c = record {
  bids = λ price millionths. bid_decides price millionths;
  offers = λ price millionths. offer_decides price millionths;
}
