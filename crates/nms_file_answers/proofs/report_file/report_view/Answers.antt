-- `report_view`: goals that `grind` closes; the search that is tried before it takes longer.
use Rattle.std.proofs.Common.{arith}
use Rattle.std.proofs.lemmas.Grind.{common_steps}
use Rattle.nms_file_answers.proofs.report_file.report_view.Goals as goal

pub report-requires-clause-parts : goal.report-requires-clause-parts
report-requires-clause-parts g c = grind (arith, common_steps)

pub returns-then-is_err-clause-cut : goal.returns-then-is_err-clause-cut
returns-then-is_err-clause-cut g c = grind (arith, common_steps)
