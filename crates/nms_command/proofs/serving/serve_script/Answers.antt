-- `serve_script`: clause `left`, by `script_stopped`.
use Rattle.std.proofs.Common.{arith}
use Rattle.std.proofs.lemmas.Grind.{common_steps}
use Rattle.nms_command.proofs.FailedFacts.{script_stopped}
use Rattle.nms_command.proofs.serving.serve_script.Goals as goal

pub returns-in-Err-clause-left : goal.returns-in-Err-clause-left
returns-in-Err-clause-left g c =
    script_stopped c.in-Err.fault c.args.setup.now (g.R.Read.remaining c.args.input.now) (g.W.Write.contents c.args.answers.now)
    (g.W.Write.contents c.run_script.new.writer) c.in-Err.ensures.stopped c.in-Err.ensures.cut

-- ---- goals that `grind` closes; the search that is tried before it takes longer

pub returns-in-Ok-clause-served : goal.returns-in-Ok-clause-served
returns-in-Ok-clause-served g c = grind (arith, common_steps)
