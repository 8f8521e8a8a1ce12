-- `run`: the senders that came back are still all that the lane has, by `all_back`.
use Rattle.nms_examples.proofs.LaneLemmas.{all_back}
use Rattle.nms_examples.proofs.lane.run.Goals as goal

pub close-requires : goal.close-requires
close-requires g c =
    let both = c.join-back.ensures in
    let back = c.in-Some.is in
    record {
      all = all_back c.args.taker c.join-back.result.1 c.args.senders.items c.in-Some.back.items c.requires.all both.second.0 both.second.1
          (rw back at both.first.0) (rw back at both.first.1.0) (rw back at both.first.1.1);
    }
