-- `serve`: clause `left` of a report, whose words are those of the request.
use Rattle.std.proofs.Common.{arith, IfErr, subst, sym}
use Rattle.std.proofs.lemmas.Grind.{common_steps}
use Rattle.nms_words.specs.CommandLine.{shown}
use Rattle.nms_command.specs.Failed.{Stops}
use Rattle.nms_command.proofs.serving.serve.Goals as goal

pub returns-in-Report-clause-left : goal.returns-in-Report-clause-left
returns-in-Report-clause-left g c =
    let cut = c.serve_report.ensures.cut in
    subst (λ command. IfErr c.serve_report.result (Stops command c.args.setup.now (shown c.args.request.now)
    (g.R.Read.remaining c.args.input.now) (g.W.Write.contents c.args.answers.now) (g.W.Write.contents c.serve_report.new.answers)))
    (sym c.in-Report.is) (rw c.deref.ensures.value at cut)

-- ---- goals that `grind` closes; the search that is tried before it takes longer

pub returns-in-Plan-clause-left : goal.returns-in-Plan-clause-left
returns-in-Plan-clause-left g c = grind (arith, common_steps)

pub returns-in-Script-clause-left : goal.returns-in-Script-clause-left
returns-in-Script-clause-left g c = grind (arith, common_steps)

pub returns-in-Check-clause-served : goal.returns-in-Check-clause-served
returns-in-Check-clause-served g c = grind (arith, common_steps)

pub returns-in-Report-clause-served : goal.returns-in-Report-clause-served
returns-in-Report-clause-served g c = grind (arith, common_steps)

pub returns-in-Plan-clause-served : goal.returns-in-Plan-clause-served
returns-in-Plan-clause-served g c = grind (arith, common_steps)

pub returns-in-Script-clause-served : goal.returns-in-Script-clause-served
returns-in-Script-clause-served g c = grind (arith, common_steps)

pub returns-in-Check-clause-left : goal.returns-in-Check-clause-left
returns-in-Check-clause-left g c = grind (arith, common_steps)
