-- `eight_feeds_send_through_one_lane`: the senders that came back are still all that the lane has.
use Rattle.std.proofs.Common.{ap, sym, take, ◌∙◌}
use Rattle.nms_quote.specs.Merge.{feeds}
use Rattle.nms_tests.proofs.feed.eight_feeds_send_through_one_lane.Goals as goal

pub close-requires : goal.close-requires
close-requires g c =
    let all = c.each_sends-senders.ensures.all in
    let kept = c.loop-shares.invariant in
    record {
      all = record {
        one_lane = rw kept.lane all.one_lane;
        in_order = all.in_order ∙ ap (λ count. take count feeds) (sym kept.senders);
      };
    }
