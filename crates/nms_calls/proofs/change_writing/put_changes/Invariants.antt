-- `put_changes`: the places up to here are written, and their changes are said.
use Rattle.std.proofs.Common.{◌≡◌, ◌<◌, ℕ, Some, IfSome, length, slice_get}
use Rattle.nms_opening.specs.declared.TheConstants.{MOST_OPENING}
use Rattle.nms_calls.specs.ChangeNumbers.{IsSaid, change_at}
use Rattle.nms_calls.proofs.change_writing.put_changes.Given as goal

abbrev pub invariant-loop-place : goal.invariant-loop-place
invariant-loop-place l =
    (length l.places ≡ MOST_OPENING)
    × ((place : ℕ) → place < l.place → slice_get l.places place ≡ Some (change_at (slice_get l.changes place)))
    × ((place : ℕ) → place < l.place → IfSome (slice_get l.changes place) IsSaid)
