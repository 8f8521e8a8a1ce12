-- `has_repeat`: what holds in each turn of its loop.
use Rattle.std.proofs.Common.{◌≡◌, length}
use Rattle.nms_rules.specs.Breach.{has_repeat}
use Rattle.nms_rules.proofs.leg_test.has_repeat.Given as goal

-- no leg so far has another after it that goes to its participant
abbrev pub invariant-loop-leg : goal.invariant-loop-leg
invariant-loop-leg l = has_repeat l.fn.legs ≡ has_repeat l.behind

abbrev pub decreases-loop-leg : goal.decreases-loop-leg
decreases-loop-leg l = length l.behind
