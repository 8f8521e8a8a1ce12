-- `serve_request`: goals that `grind` closes; the search that is tried before it takes longer.
use Rattle.std.proofs.Common.{arith}
use Rattle.std.proofs.lemmas.Grind.{common_steps}
use Rattle.nms_command.proofs.words_serving.serve_request.Goals as goal

pub returns-in_err-setup-clause-left : goal.returns-in_err-setup-clause-left
returns-in_err-setup-clause-left g c = grind (arith, common_steps)

pub returns-clause-left : goal.returns-clause-left
returns-clause-left g c = grind (arith, common_steps)

pub returns-clause-met : goal.returns-clause-met
returns-clause-met g c = grind (arith, common_steps)
