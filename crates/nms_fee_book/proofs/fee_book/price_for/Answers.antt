-- `price_for`: goals that `grind` closes; the search that is tried before it takes longer.
use Rattle.std.proofs.Common.{arith}
use Rattle.std.proofs.lemmas.Grind.{common_steps}
use Rattle.nms_fee_book.proofs.fee_book.price_for.Goals as goal

pub returns-in-Sell-clause-high : goal.returns-in-Sell-clause-high
returns-in-Sell-clause-high c = grind (arith, common_steps)

pub returns-in-Sell-clause-price : goal.returns-in-Sell-clause-price
returns-in-Sell-clause-price c = grind (arith, common_steps)

pub returns-in-Sell-clause-low : goal.returns-in-Sell-clause-low
returns-in-Sell-clause-low c = grind (arith, common_steps)
