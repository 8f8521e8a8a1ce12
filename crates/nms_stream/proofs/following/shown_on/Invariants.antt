-- `shown_on`: what holds in each turn of its loop.
use Rattle.std.proofs.Common.{◌≡◌, ◌<◌, ℕ, length, slice_get, Some}
use Rattle.nms_board.specs.Shown.{seen_on}
use Rattle.nms_stream.specs.Quoted.{quoted_in}
use Rattle.nms_stream.proofs.following.shown_on.Given as goal

-- the symbols so far, each as the board has it
abbrev pub invariant-loop-place : goal.invariant-loop-place
invariant-loop-place l = record {
  places : length l.shown.items ≡ l.place;
  each : (sym : ℕ) → sym < l.place → slice_get l.shown.items sym ≡ Some (quoted_in (seen_on l.board sym));
}
