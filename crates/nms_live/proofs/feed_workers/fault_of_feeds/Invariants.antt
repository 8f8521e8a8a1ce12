-- `fault_of_feeds`, its loop: what is to come goes on from the first fault so far.
use Rattle.std.proofs.Common.{◌≡◌, drop}
use Rattle.nms_live.specs.Crew.{first_stop}
use Rattle.nms_live.specs.Faults.{first_among}
use Rattle.nms_live.proofs.feed_workers.fault_of_feeds.Given as goal

abbrev pub invariant-loop-back : goal.invariant-loop-back
invariant-loop-back l = record {
  first : first_among (λ back. back.stop) l.first (drop l.back-index l.fed) ≡ first_stop l.fed;
}
