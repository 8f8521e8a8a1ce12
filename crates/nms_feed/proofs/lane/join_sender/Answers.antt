-- `join_sender`: the rule stays when a pass is taken in, by `merges`.
use Rattle.std.proofs.Common.{arith}
use Rattle.std.proofs.lemmas.Grind.{common_steps}
use Rattle.nms_feed.proofs.Moves.{merges}
use Rattle.nms_feed.proofs.lane.join_sender.Goals as goal

pub absorb-requires-clause-rule : goal.absorb-requires-clause-rule
absorb-requires-clause-rule c = merges _ _ _ _

-- ---- goals that `grind` closes; the search that is tried before it takes longer

pub absorb-requires-clause-queue : goal.absorb-requires-clause-queue
absorb-requires-clause-queue c = grind (arith, common_steps)
