-- `clear_bests`: the best rows so far are those of no rows.
use Rattle.std.proofs.Common.{◌≡◌, All, length, take}
use Rattle.nms_board.specs.Bests.{HasNone}
use Rattle.nms_board.proofs.symbol_best.clear_bests.Given as goal

abbrev pub invariant-loop-place : goal.invariant-loop-place
invariant-loop-place l = record {
  len : length l.bests ≡ length l.initial.bests;
  empty : All HasNone (take l.place l.bests);
}
