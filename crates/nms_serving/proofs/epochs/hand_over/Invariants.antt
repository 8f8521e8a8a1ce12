-- `hand_over`: what holds in each turn of its loop.
use Rattle.std.proofs.Common.{◌≡◌}
use Rattle.nms_serving.proofs.epochs.hand_over.Given as goal

-- what is published stays
abbrev pub invariant-loop-desk : goal.invariant-loop-desk
invariant-loop-desk g l = l.keeper.publisher ≡ l.fn.keeper.publisher
