-- `no_tracks`: each track so far is one of nothing.
use Rattle.std.proofs.Common.{ℕ, ◌≡◌, ◌<◌, length, slice_get}
use Rattle.nms_trades.specs.Track.{HasTrack, nothing}
use Rattle.nms_trades.proofs.track.no_tracks.Given as goal

abbrev pub invariant-loop : goal.invariant-loop
invariant-loop l = record {
  count : length l.tracks.items ≡ l.counter;
  nothing : (place : ℕ) → place < l.counter → HasTrack (λ n. nothing) 0 (slice_get l.tracks.items place);
}
