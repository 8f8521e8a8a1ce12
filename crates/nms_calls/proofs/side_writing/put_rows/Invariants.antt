-- `put_rows`: the places up to here are written.
use Rattle.std.proofs.Common.{◌≡◌, ◌<◌, ℕ, Some, length, slice_get}
use Rattle.nms_calls.specs.RowNumbers.{row_numbers}
use Rattle.nms_calls.proofs.side_writing.put_rows.Given as goal

abbrev pub invariant-loop-place : goal.invariant-loop-place
invariant-loop-place l = (length l.places ≡ 32) × ((place : ℕ) → place < l.place → slice_get l.places place ≡ Some (row_numbers
    (slice_get l.rows place)))
