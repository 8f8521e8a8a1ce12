-- `least`: the first fault of least number among those compared so far, the last ones.
use Rattle.std.proofs.Common.{◌≡◌, ◌-◌, length, drop}
use Rattle.nms_calls.specs.SetupPlaces.{least}
use Rattle.nms_calls.proofs.setup_place.least.Given as goal

abbrev pub invariant-loop-later : goal.invariant-loop-later
invariant-loop-later l = l.first ≡ least (drop (length l.found - l.later) l.found)
