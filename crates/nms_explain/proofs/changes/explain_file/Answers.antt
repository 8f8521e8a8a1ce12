-- `explain_file`: by the reader that is opened over the source.
use Rattle.std.proofs.Common.{subst}
use Rattle.std.specs.Prelude.{IfOk}
use Rattle.nms_quote.specs.Roster.{Listing}
use Rattle.nms_lines.specs.Lines.{reading}
use Rattle.nms_explain.specs.Counted.{EndsBy}
use Rattle.nms_explain.proofs.changes.explain_file.Goals as goal

pub returns-clause-ending : goal.returns-clause-ending
returns-clause-ending g c =
    subst (λ (it : Listing). IfOk c.explain_source.result (EndsBy (reading it c.args.from) (g.R.Read.remaining c.args.source)))
    c.roster.ensures (c.explain_source.ensures.ending (g.R.Read.remaining c.args.source) c.open_source-reader.ensures)
