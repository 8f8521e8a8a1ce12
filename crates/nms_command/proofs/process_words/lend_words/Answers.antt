-- `lend_words`: the turns of its loop.
use Rattle.std.proofs.Common.{arith}
use Rattle.std.proofs.lemmas.Grind.{common_steps}
use Rattle.nms_command.proofs.process_words.lend_words.Goals as goal

pub loop-word-preserved : goal.loop-word-preserved
loop-word-preserved c = grind (arith, common_steps)

-- ---- goals that `grind` closes; the search that is tried before it takes longer

pub returns-clause-lent : goal.returns-clause-lent
returns-clause-lent c = grind (arith, common_steps)
