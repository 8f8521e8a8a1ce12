-- `take_line`: goals that `grind` closes; the search that is tried before it takes longer.
use Rattle.std.proofs.Common.{arith}
use Rattle.std.proofs.lemmas.Grind.{common_steps}
use Rattle.nms_files.proofs.change_file.ChangeFileItem.take_line.Goals as goal

pub returns-in-Err-push-clause-refused : goal.returns-in-Err-push-clause-refused
returns-in-Err-push-clause-refused c = grind (arith, common_steps)

pub returns-in-Ok-push-clause-taken : goal.returns-in-Ok-push-clause-taken
returns-in-Ok-push-clause-taken c = grind (arith, common_steps)

pub returns-then-len-tape_limit-clause-refused : goal.returns-then-len-tape_limit-clause-refused
returns-then-len-tape_limit-clause-refused c = grind (arith, common_steps)
