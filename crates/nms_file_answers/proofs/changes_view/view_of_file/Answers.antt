-- `view_of_file`: goals that `grind` closes; the search that is tried before it takes longer.
use Rattle.std.proofs.Common.{arith}
use Rattle.std.proofs.lemmas.Grind.{common_steps}
use Rattle.nms_file_answers.proofs.changes_view.view_of_file.Goals as goal

pub returns-in-Ok-view_after-clause-parts : goal.returns-in-Ok-view_after-clause-parts
returns-in-Ok-view_after-clause-parts g c = grind (arith, common_steps)

pub returns-in-Ok-view_after-clause-shown : goal.returns-in-Ok-view_after-clause-shown
returns-in-Ok-view_after-clause-shown g c = grind (arith, common_steps)

pub returns-clause-refused : goal.returns-clause-refused
returns-clause-refused g c = grind (arith, common_steps)

pub view_after-requires-clause-sym : goal.view_after-requires-clause-sym
view_after-requires-clause-sym g c = grind (arith, common_steps)

pub returns-in-Err-clause-refused : goal.returns-in-Err-clause-refused
returns-in-Err-clause-refused g c = grind (arith, common_steps)
