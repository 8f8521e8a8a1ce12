-- `schedule`: goals that `grind` closes; the search that is tried before it takes longer.
use Rattle.std.proofs.Common.{arith}
use Rattle.std.proofs.lemmas.Grind.{common_steps}
use Rattle.nms_fee_book.proofs.fee_book.FeeBook.schedule.Goals as goal

pub returns-in-Some-clause-capped : goal.returns-in-Some-clause-capped
returns-in-Some-clause-capped c = grind (arith, common_steps)
