-- `report`: goals that `grind` closes; the search that is tried before it takes longer.
use Rattle.std.proofs.Common.{arith}
use Rattle.std.proofs.lemmas.Grind.{common_steps}
use Rattle.nms_text.proofs.report_text.report.Goals as goal

pub write_report-requires-clause-parts : goal.write_report-requires-clause-parts
write_report-requires-clause-parts g c = grind (arith, common_steps)
