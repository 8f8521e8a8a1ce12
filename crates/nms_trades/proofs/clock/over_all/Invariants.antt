-- `over_all`: the times so far are of no more changes than there are.
use Rattle.std.proofs.Common.{length}
use Rattle.nms_trades.specs.When.{AreOfChanges}
use Rattle.nms_trades.proofs.clock.over_all.Given as goal

abbrev pub invariant-loop : goal.invariant-loop
invariant-loop l = AreOfChanges (length l.times) l.all.items
