-- `clear_legs`: the places from the first free one up to here are free, and those before are as they were.
use Rattle.std.proofs.Common.{◌≡◌, ◌<◌, ◌≤◌, ℕ, Some, length, slice_get, take}
use Rattle.nms_calls.specs.PlanNumbers.{no_leg}
use Rattle.nms_calls.proofs.plan_writing.clear_legs.Given as goal

abbrev pub invariant-loop-place : goal.invariant-loop-place
invariant-loop-place l = record {
  from : l.count ≤ l.place;
  count : length l.places ≡ 32;
  before : take l.count l.places ≡ take l.count l.fn.places;
  behind : (place : ℕ) → l.count ≤ place → place < l.place → slice_get l.places place ≡ Some no_leg;
}
