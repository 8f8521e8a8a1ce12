-- `take_rest`, its loop: the ends are those that it was given; unless it stopped, the tape is what was taken.
use Rattle.std.proofs.Common.{◌≡◌}
use Rattle.nms_live.specs.Keeping.{HasTaken, IsSameKeeping}
use Rattle.nms_live.proofs.taking.take_rest.Given as goal

abbrev pub invariant-loop : goal.invariant-loop
invariant-loop g l = record {
  senders : l.ends.0 ≡ l.fn.senders;
  lane : (l.ends.1.lane ≡ l.fn.taker.lane) × (l.ends.1.senders ≡ l.fn.taker.senders);
  same : IsSameKeeping l.fn.keeper l.keeper;
  taken : HasTaken l.keeper l.ends.1.taken;
}
