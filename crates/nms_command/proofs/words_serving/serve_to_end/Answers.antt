-- `serve_to_end`: clause `left`, by `stopped_by`.
use Rattle.std.proofs.Common.{arith, refl}
use Rattle.std.proofs.lemmas.Grind.{common_steps}
use Rattle.nms_words.specs.CommandLine.{shown}
use Rattle.nms_command.proofs.FailedFacts.{stopped_by}
use Rattle.nms_command.proofs.words_serving.serve_to_end.Goals as goal

pub returns-in-Err-clause-left : goal.returns-in-Err-clause-left
returns-in-Err-clause-left g c =
    stopped_by c.args.request.now.command c.in-Err.fault (shown c.args.request.now) c.args.setup.now (g.R.Read.remaining c.args.input.now)
    (g.W.Write.contents c.args.answers.now) (g.W.Write.contents c.serve.new.answers) refl c.requires.said c.requires.apart c.in-Err.ensures.left

-- ---- goals that `grind` closes; the search that is tried before it takes longer

pub returns-in-Ok-clause-met : goal.returns-in-Ok-clause-met
returns-in-Ok-clause-met g c = grind (arith, common_steps)
