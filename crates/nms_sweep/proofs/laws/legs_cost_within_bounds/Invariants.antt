-- `legs_cost_within_bounds`: what holds in each turn of its loop.
use Rattle.std.proofs.Common.{take}
use Rattle.nms_sweep.proofs.BoundLemmas.{AreWithin}
use Rattle.nms_sweep.proofs.laws.legs_cost_within_bounds.Given as goal

abbrev pub invariant-loop-leg : goal.invariant-loop-leg
invariant-loop-leg l = AreWithin l.fees l.side (take l.leg-index l.legs)
