-- `read_legs`: the legs read so far.
use Rattle.std.proofs.Common.{◌≡◌, map, take}
use Rattle.nms_calls.specs.PlanSaid.{leg_said}
use Rattle.nms_calls.proofs.plan_reading.read_legs.Given as goal

abbrev pub invariant-loop-leg : goal.invariant-loop-leg
invariant-loop-leg l = l.legs.items ≡ map leg_said (take l.leg-index l.numbers)
