-- `lot_of`: goals that `grind` closes; the search that is tried before it takes longer.
use Rattle.std.proofs.Common.{arith}
use Rattle.std.proofs.lemmas.Grind.{common_steps}
use Rattle.nms_fees.proofs.setup_reading.lot_of.Goals as goal

pub unwrap-requires : goal.unwrap-requires
unwrap-requires c = grind (arith, common_steps)

pub overflow_cast-number_in : goal.overflow_cast-number_in
overflow_cast-number_in c = grind (arith, common_steps)

pub returns : goal.returns
returns c = grind (arith, common_steps)
