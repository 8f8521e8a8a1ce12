-- `report_changes`: clauses `refused` and `cut`, by `report_cut`.
use Rattle.std.proofs.Common.{arith}
use Rattle.std.proofs.lemmas.Grind.{common_steps}
use Rattle.std.proofs.lemmas.Result.{IfErr-weaker}
use Rattle.nms_file_answers.proofs.PartFacts.{report_cut}
use Rattle.nms_file_answers.proofs.report_file.report_changes.Goals as goal

-- src/report_file.rt: a view is not refused for the file, whatever that holds
pub returns-in-Ok-clause-refused : goal.returns-in-Ok-clause-refused
returns-in-Ok-clause-refused g c = c.report_view.ensures.refused c.args.setup.now (g.R.Read.remaining c.args.source)

-- the writer failed within the report
pub returns-in-Ok-clause-cut : goal.returns-in-Ok-clause-cut
returns-in-Ok-clause-cut g c =
    IfErr-weaker c.report_view.result _ _
    (λ fault part is. report_cut c.args.setup.now (g.R.Read.remaining c.args.source) _ _ c.args.sym c.in-Ok.view c.roster.result.now
    c.in-Ok.ensures.shown c.roster.ensures (part is))
    c.report_view.ensures.cut

-- ---- goals that `grind` closes; the search that is tried before it takes longer

pub report_view-requires-clause-sym : goal.report_view-requires-clause-sym
report_view-requires-clause-sym g c = grind (arith, common_steps)

pub returns-in-Err-Changes-clause-refused : goal.returns-in-Err-Changes-clause-refused
returns-in-Err-Changes-clause-refused g c = grind (arith, common_steps)

pub report_view-requires-clause-parts : goal.report_view-requires-clause-parts
report_view-requires-clause-parts g c = grind (arith, common_steps)

pub returns-in-Err-Board-clause-cut : goal.returns-in-Err-Board-clause-cut
returns-in-Err-Board-clause-cut g c = grind (arith, common_steps)

pub returns-in-Err-Changes-clause-cut : goal.returns-in-Err-Changes-clause-cut
returns-in-Err-Changes-clause-cut g c = grind (arith, common_steps)
