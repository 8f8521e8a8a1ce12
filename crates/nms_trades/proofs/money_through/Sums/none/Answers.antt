-- `none`: no quotations have no sums, by `sums-none`.
use Rattle.nms_trades.proofs.SumFacts.{sums-none}
use Rattle.nms_trades.proofs.money_through.Sums.none.Goals as goal

pub returns : goal.returns
returns c = sums-none
