-- `add_legs`: the legs so far and those that are left are all of them.
use Rattle.std.proofs.Common.{◌≡◌, ◌++◌, drop, map}
use Rattle.nms_drawing.specs.Plans.{leg_row}
use Rattle.nms_drawing.proofs.plans.add_legs.Given as goal

abbrev pub invariant-loop-leg : goal.invariant-loop-leg
invariant-loop-leg l = l.rows.items ++ map leg_row (drop l.leg-index l.legs) ≡ map leg_row l.legs
