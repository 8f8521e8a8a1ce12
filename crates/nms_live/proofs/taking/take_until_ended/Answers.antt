-- `take_until_ended`: goals that `grind` closes; the search that is tried before it takes longer.
use Rattle.std.proofs.Common.{arith}
use Rattle.std.proofs.lemmas.Grind.{common_steps}
use Rattle.nms_live.proofs.taking.take_until_ended.Goals as goal

pub loop-preserved-then-take_one : goal.loop-preserved-then-take_one
loop-preserved-then-take_one g c = grind (arith, common_steps)

pub returns-then-feeds_have_ended-clause-lane : goal.returns-then-feeds_have_ended-clause-lane
returns-then-feeds_have_ended-clause-lane g c = grind (arith, common_steps)

pub unreachable-requires : goal.unreachable-requires
unreachable-requires g c = grind (arith, common_steps)

pub returns-then-feeds_have_ended-clause-taken : goal.returns-then-feeds_have_ended-clause-taken
returns-then-feeds_have_ended-clause-taken g c = grind (arith, common_steps)

pub returns-then-feeds_have_ended-clause-same : goal.returns-then-feeds_have_ended-clause-same
returns-then-feeds_have_ended-clause-same g c = grind (arith, common_steps)
