-- `put_cuts`: the places up to here are written. Those past the last cut are written in another loop.
use Rattle.std.proofs.Common.{◌≡◌, ◌<◌, ℕ, Some, length, slice_get}
use Rattle.nms_calls.specs.PlanNumbers.{cut_at}
use Rattle.nms_calls.proofs.plan_writing.put_cuts.Given as goal

abbrev pub invariant-loop-place : goal.invariant-loop-place
invariant-loop-place l = (length l.places ≡ 32) × ((place : ℕ) → place < l.place → slice_get l.places place ≡ Some (cut_at (slice_get
    l.cuts place)))

abbrev pub invariant-loop-place-2 : goal.invariant-loop-place-2
invariant-loop-place-2 l = (length l.places ≡ 32) × ((place : ℕ) → place < l.place → slice_get l.places place ≡ Some (cut_at (slice_get
    l.cuts place)))
