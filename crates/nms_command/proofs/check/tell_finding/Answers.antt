-- `tell_finding`: goals that `grind` closes.
use Rattle.std.proofs.Common.{arith}
use Rattle.std.proofs.lemmas.Grind.{common_steps}
use Rattle.nms_command.proofs.check.tell_finding.Goals as goal

pub returns-in-Ok-clause-told : goal.returns-in-Ok-clause-told
returns-in-Ok-clause-told g c = grind (arith, common_steps)

pub returns-in-Ok-clause-cut : goal.returns-in-Ok-clause-cut
returns-in-Ok-clause-cut g c = grind (arith, common_steps)

-- ---- goals that `grind` closes; the search that is tried before it takes longer

pub returns-in-Err-VersionBeyondTape-clause-told : goal.returns-in-Err-VersionBeyondTape-clause-told
returns-in-Err-VersionBeyondTape-clause-told g c = grind (arith, common_steps)

pub returns-in-Err-Doubt-clause-told : goal.returns-in-Err-Doubt-clause-told
returns-in-Err-Doubt-clause-told g c = grind (arith, common_steps)
