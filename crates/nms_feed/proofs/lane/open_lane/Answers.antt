-- `open_lane`: the rule holds at first.
use Rattle.std.proofs.Common.{arith}
use Rattle.std.proofs.lemmas.Grind.{common_steps}
use Rattle.nms_feed.proofs.Moves.{begins}
use Rattle.nms_feed.proofs.lane.open_lane.Goals as goal

pub ruled-requires-clause-rule : goal.ruled-requires-clause-rule
ruled-requires-clause-rule c = begins

-- ---- goals that `grind` closes; the search that is tried before it takes longer

pub invariant_of-taker : goal.invariant_of-taker
invariant_of-taker c = grind (arith, common_steps)
