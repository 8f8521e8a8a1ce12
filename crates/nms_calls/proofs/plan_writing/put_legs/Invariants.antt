-- `put_legs`: the places up to here are written. Those past the last leg are written in another loop.
use Rattle.std.proofs.Common.{◌≡◌, ◌<◌, ℕ, Some, length, slice_get}
use Rattle.nms_calls.specs.PlanNumbers.{leg_at}
use Rattle.nms_calls.proofs.plan_writing.put_legs.Given as goal

abbrev pub invariant-loop-place : goal.invariant-loop-place
invariant-loop-place l = (length l.places ≡ 32) × ((place : ℕ) → place < l.place → slice_get l.places place ≡ Some (leg_at (slice_get
    l.legs place)))

abbrev pub invariant-loop-place-2 : goal.invariant-loop-place-2
invariant-loop-place-2 l = (length l.places ≡ 32) × ((place : ℕ) → place < l.place → slice_get l.places place ≡ Some (leg_at (slice_get
    l.legs place)))
