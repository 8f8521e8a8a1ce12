-- `part_name_is_formed`: goals that `grind` closes; the search that is tried before it takes longer.
use Rattle.std.proofs.Common.{arith}
use Rattle.std.proofs.lemmas.Grind.{common_steps}
use Rattle.nms_lines.proofs.laws.part_name_is_formed.Goals as goal

pub part_name-requires : goal.part_name-requires
part_name-requires c = grind (arith, common_steps)
