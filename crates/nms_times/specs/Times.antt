-- Versions by time. The times of a tape are a list: the time of change k is at k - 1, so a version's time is that of
-- its last change. This product's own rule.
use Rattle.std.specs.Prelude.{ℕ, zero, suc, ◌≡◌, ◌+◌, ◌-◌, ◌<◌, ◌≤◌, List, take, drop, length, nat_le, nat_lt, slice_get, slice_index}
use Rattle.std.specs.Prelude.{Option, None}
use Rattle.std.specs.List.{prefix_len, AllAdjacentBelow}

-- the number of times before the first that is later: the length of the longest prefix of times not later
abbrev pub version_at : List ℕ → ℕ → ℕ
version_at times t = prefix_len (λ x. nat_le x t) times

-- the length of the longest prefix of times that are earlier
abbrev pub version_before : List ℕ → ℕ → ℕ
version_before times t = prefix_len (λ x. nat_lt x t) times

-- the time of a version; version 0 and a version past the times have none
abbrev pub time_of : List ℕ → ℕ → Option ℕ
time_of times zero = None
time_of times (suc k) = slice_get times k

-- the times of the versions after one, up to another
abbrev pub between : List ℕ → (before last : ℕ) → List ℕ
between times before last = take (last - before) (drop before times)

-- the first place at which a time is before the time to its left
pub record FallsAt (times : List ℕ) (place : ℕ) : Type 0 where
  pub inside : (0 < place) × (place < length times)
  pub falls : slice_index times place < slice_index times (place - 1)
  pub first : AllAdjacentBelow (λ x y. x ≤ y) times place
