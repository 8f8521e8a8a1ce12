-- `turns_of`: each execution so far has a turn.
use Rattle.nms_trades.specs.Turns.{HaveTurns}
use Rattle.nms_trades.proofs.order.turns_of.Given as goal

abbrev pub invariant-loop-place : goal.invariant-loop-place
invariant-loop-place l = HaveTurns l.turns.items l.place
