-- `words`: goals that `grind` closes; the search that is tried before it takes longer.
use Rattle.std.proofs.Common.{arith}
use Rattle.std.proofs.lemmas.Grind.{common_steps}
use Rattle.nms_words.proofs.subcommand.Sub.words.Goals as goal

pub returns-in-Live-clause-rules : goal.returns-in-Live-clause-rules
returns-in-Live-clause-rules c = grind (arith, common_steps)

pub returns-in-Plan-clause-rules : goal.returns-in-Plan-clause-rules
returns-in-Plan-clause-rules c = grind (arith, common_steps)

pub returns-in-Check-clause-rules : goal.returns-in-Check-clause-rules
returns-in-Check-clause-rules c = grind (arith, common_steps)

pub returns-in-Report-clause-rules : goal.returns-in-Report-clause-rules
returns-in-Report-clause-rules c = grind (arith, common_steps)
