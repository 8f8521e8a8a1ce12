-- `apply_taken`: goals that `grind` closes; the search that is tried before it takes longer.
use Rattle.std.proofs.Common.{arith}
use Rattle.std.proofs.lemmas.Grind.{common_steps}
use Rattle.nms_versions.proofs.sealed.apply_taken.Goals as goal

pub loop-change-preserved : goal.loop-change-preserved
loop-change-preserved c = grind (arith, common_steps)
