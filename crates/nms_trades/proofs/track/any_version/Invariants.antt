-- `any_version`: no version before that of the next mark passes the test.
use Rattle.std.proofs.Common.{ℕ, ◌≡◌, ◌+◌, ◌<◌, ◌≤◌, false, length}
use Rattle.nms_trades.specs.Track.{IsTrack, holds_of, mark_at}
use Rattle.nms_trades.specs.declared.track.Limits.{Limits}
use Rattle.nms_trades.proofs.track.any_version.Given as goal

abbrev pub invariant-loop-place : goal.invariant-loop-place
invariant-loop-place l = record {
  next : (all : ℕ → Limits) (upto : ℕ) → IsTrack all upto l.marks → l.place + 1 < length l.marks
      → l.first < (mark_at l.marks (l.place + 1)).version;
  none : (all : ℕ → Limits) (upto : ℕ) → IsTrack all upto l.marks → l.last ≤ upto → (n : ℕ) → l.first ≤ n → n ≤ l.last
      → (l.place < length l.marks → n < (mark_at l.marks l.place).version) → holds_of l.test l.millionths (all n) ≡ false;
}
