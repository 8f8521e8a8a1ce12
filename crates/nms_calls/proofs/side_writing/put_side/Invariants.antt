-- `put_side`: the places up to here are written, and the same number of rows was counted.
use Rattle.std.proofs.Common.{◌≡◌, ◌<◌, ℕ, length, min}
use Rattle.nms_board.specs.Ranking.{ranked_at}
use Rattle.nms_board.specs.Shown.{rows_held}
use Rattle.nms_calls.specs.RowNumbers.{IsRowAt, row_numbers}
use Rattle.nms_calls.proofs.SideLemmas.{AreWide}
use Rattle.nms_calls.proofs.side_writing.put_side.Given as goal

abbrev pub invariant-loop-place : goal.invariant-loop-place
invariant-loop-place l =
    AreWide l.out
    × (l.count ≡ min l.place (length (rows_held l.board l.sym l.side)))
    × ((place : ℕ) → place < l.place → IsRowAt l.out place (row_numbers (ranked_at l.side (rows_held l.board l.sym l.side) place)))
