-- `put_order`: the sizes so far are summed, and then the places up to here are written.
use Rattle.std.proofs.Common.{◌≡◌, ◌<◌, ◌≤◌, ◌*◌, ℕ, slice_get, take}
use Rattle.nms_board.specs.Ranking.{total_size}
use Rattle.nms_calls.specs.RowNumbers.{IsRowAt, row_numbers}
use Rattle.nms_calls.proofs.SideLemmas.{AreWide}
use Rattle.nms_calls.proofs.view_reducing.put_order.Given as goal

abbrev pub invariant-loop-row : goal.invariant-loop-row
invariant-loop-row l = record {
  total : l.total ≡ total_size (take l.row-index l.in_order);
  within : l.total ≤ l.row-index * 4294967295;
}

abbrev pub invariant-loop-place : goal.invariant-loop-place
invariant-loop-place l = record {
  wide : AreWide l.out;
  places : (place : ℕ) → place < l.place → IsRowAt l.out place (row_numbers (slice_get l.in_order place));
}
