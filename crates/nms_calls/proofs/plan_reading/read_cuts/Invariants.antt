-- `read_cuts`: the cuts read so far.
use Rattle.std.proofs.Common.{◌≡◌, map, take}
use Rattle.nms_calls.specs.PlanSaid.{cut_said}
use Rattle.nms_calls.proofs.plan_reading.read_cuts.Given as goal

abbrev pub invariant-loop-cut : goal.invariant-loop-cut
invariant-loop-cut l = l.cuts.items ≡ map cut_said (take l.cut-index l.numbers)
