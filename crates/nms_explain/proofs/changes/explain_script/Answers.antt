-- `explain_script`: a script's records are read with the setup's number of desks.
use Rattle.std.proofs.Common.{subst}
use Rattle.std.specs.Prelude.{IfOk}
use Rattle.nms_lines.specs.Lines.{reading}
use Rattle.nms_lines.specs.declared.line.Reading.TheVariants as read_as
use Rattle.nms_explain.specs.Counted.{EndsBy}
use Rattle.nms_explain.proofs.changes.explain_script.Goals as goal

pub returns-clause-ending : goal.returns-clause-ending
returns-clause-ending g c =
    subst (λ desks. IfOk c.explain_file.result (EndsBy (reading c.args.setup.now.roster (read_as.Script desks))
    (g.R.Read.remaining c.args.source))) c.desks.ensures.value c.explain_file.ensures.ending
