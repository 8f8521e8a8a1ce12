-- `plan_changes`: clauses `refused` and `written`.
use Rattle.std.proofs.Common.{arith}
use Rattle.std.proofs.lemmas.Grind.{common_steps}
use Rattle.nms_file_answers.proofs.plan_file.plan_changes.Goals as goal

-- src/plan_file.rt: a view is not refused for the file, whatever that holds
pub returns-in-Ok-clause-refused : goal.returns-in-Ok-clause-refused
returns-in-Ok-clause-refused g c = c.plan_view.ensures.refused (g.R.Read.remaining c.args.source)

-- ---- goals that `grind` closes; the search that is tried before it takes longer

pub returns-in-Err-Changes-clause-refused : goal.returns-in-Err-Changes-clause-refused
returns-in-Err-Changes-clause-refused g c = grind (arith, common_steps)

pub returns-in-Err-Board-clause-cut : goal.returns-in-Err-Board-clause-cut
returns-in-Err-Board-clause-cut g c = grind (arith, common_steps)

pub returns-in-Err-Changes-clause-cut : goal.returns-in-Err-Changes-clause-cut
returns-in-Err-Changes-clause-cut g c = grind (arith, common_steps)

pub plan_view-requires-clause-same : goal.plan_view-requires-clause-same
plan_view-requires-clause-same g c = grind (arith, common_steps)

pub plan_view-requires-clause-self_help : goal.plan_view-requires-clause-self_help
plan_view-requires-clause-self_help g c = grind (arith, common_steps)

pub plan_view-requires-clause-parts : goal.plan_view-requires-clause-parts
plan_view-requires-clause-parts g c = grind (arith, common_steps)
