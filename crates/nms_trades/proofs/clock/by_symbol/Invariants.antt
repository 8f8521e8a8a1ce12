-- `by_symbol`: the times so far are of no more changes than there are.
use Rattle.std.proofs.Common.{length}
use Rattle.nms_trades.specs.When.{AreOfChanges}
use Rattle.nms_trades.proofs.clock.by_symbol.Given as goal

abbrev pub invariant-loop-place : goal.invariant-loop-place
invariant-loop-place l = AreOfChanges (length l.times) l.all.items
