-- `tell_answer`: goals that `grind` closes; the search that is tried before it takes longer.
use Rattle.std.proofs.Common.{arith}
use Rattle.std.proofs.lemmas.Grind.{common_steps}
use Rattle.nms_text.proofs.live_text.tell_answer.Goals as goal

pub returns : goal.returns
returns c = grind (arith, common_steps)
