-- `first_fall`: that times of which none is before the one at its left do not fall.
use Rattle.std.proofs.Common.{arith}
use Rattle.std.proofs.lemmas.List.Sorted.{IsNonDecreasingBy-from_all_adjacent}
use Rattle.nms_times.proofs.times.first_fall.Goals as goal

pub returns : goal.returns
returns c = IsNonDecreasingBy-from_all_adjacent (λ x. x) c.args.times.now (λ k d h. c.loop-place.invariant k d (omega arith))
