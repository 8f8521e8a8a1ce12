-- `least`: the least of the findings so far.
use Rattle.std.proofs.Common.{◌≡◌, take}
use Rattle.nms_fees.specs.Faults.{least}
use Rattle.nms_fees.proofs.check.least.Given as goal

abbrev pub invariant-loop-finding : goal.invariant-loop-finding
invariant-loop-finding l = l.least ≡ least (take l.finding-index l.found)
