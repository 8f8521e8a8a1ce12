-- `arg_of`: goals that `grind` closes; the search that is tried before it takes longer.
use Rattle.std.proofs.Common.{arith}
use Rattle.std.proofs.lemmas.Grind.{common_steps}
use Rattle.nms_words.proofs.command_line.arg_of.Goals as goal

pub returns-in-Option-Manual-clause-rule : goal.returns-in-Option-Manual-clause-rule
returns-in-Option-Manual-clause-rule c = grind (arith, common_steps)

pub returns-in-Needed-clause-rule : goal.returns-in-Needed-clause-rule
returns-in-Needed-clause-rule c = grind (arith, common_steps)

pub returns-in-Option-Setup-clause-rule : goal.returns-in-Option-Setup-clause-rule
returns-in-Option-Setup-clause-rule c = grind (arith, common_steps)

pub returns-in-Option-SelfHelp-clause-rule : goal.returns-in-Option-SelfHelp-clause-rule
returns-in-Option-SelfHelp-clause-rule c = grind (arith, common_steps)

pub returns-in-Further-clause-rule : goal.returns-in-Further-clause-rule
returns-in-Further-clause-rule c = grind (arith, common_steps)
