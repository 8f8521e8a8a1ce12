-- `explain_orders`: each record that is read there is an order.
use Rattle.std.proofs.Common.{subst}
use Rattle.std.specs.Prelude.{IfOk}
use Rattle.nms_lines.specs.Lines.{reading}
use Rattle.nms_lines.specs.declared.line.Reading.TheVariants as read_as
use Rattle.nms_files.specs.OrderFile.{order_reading}
use Rattle.nms_explain.specs.Counted.{EndsBy}
use Rattle.nms_explain.proofs.CountFacts.{ends_same}
use Rattle.nms_explain.proofs.ReadingFacts.{orders_agree}
use Rattle.nms_explain.proofs.changes.explain_orders.Goals as goal

pub returns-clause-ending : goal.returns-clause-ending
returns-clause-ending g c =
    ends_same (reading c.args.setup.now.roster (read_as.Orders c.args.setup.now.desks)) (order_reading c.args.setup.now)
    (orders_agree c.args.setup.now) (g.R.Read.remaining c.args.source) c.explain_file.result
    (subst (λ desks. IfOk c.explain_file.result (EndsBy (reading c.args.setup.now.roster (read_as.Orders desks))
    (g.R.Read.remaining c.args.source))) c.desks.ensures.value c.explain_file.ensures.ending)
