-- `no_tracks`: one track more, by `has_push`.
use Rattle.std.proofs.Common.{◌∷◌, [], arith, length-append}
use Rattle.nms_trades.specs.Track.{nothing}
use Rattle.nms_trades.proofs.TrackFacts.{has_push}
use Rattle.nms_trades.proofs.track.no_tracks.Goals as goal

pub loop-preserved : goal.loop-preserved
loop-preserved c =
    let old = c.loop.tracks.items in
    record {
      count = rw c.in_ok-push.ensures.items
          (omega (arith, length-append old (c.in_ok-no_track.field-0 ∷ []), c.loop.invariant.count));
      nothing = λ place below. rw c.in_ok-push.ensures.items
          (has_push (λ n. nothing) old c.in_ok-no_track.field-0
          (λ p h. c.loop.invariant.nothing p (omega (arith, h, c.loop.invariant.count))) c.in_ok-no_track.ensures place
          (omega (arith, below, c.loop.invariant.count)));
    }
