-- Laws of versions by time. This product's own rule.
use Rattle.std.specs.Prelude.{ℕ, ◌≡◌, ◌<◌, ◌≤◌, List, slice_index}
use Rattle.nms_times.specs.Times.{version_at, version_before}

-- the change at a place is in the version at a time if and only if it is not later. It is in the version before the
-- time if and only if it is earlier
pub record Splits (times : List ℕ) (t place : ℕ) : Type 0 where
  pub within : place < version_at times t → slice_index times place ≤ t
  pub beyond : version_at times t ≤ place → t < slice_index times place
  pub within_before : place < version_before times t → slice_index times place < t
  pub beyond_before : version_before times t ≤ place → t ≤ slice_index times place
