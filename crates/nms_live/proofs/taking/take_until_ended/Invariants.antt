-- `take_until_ended`, its loop: unless it stopped, the tape is what was taken.
use Rattle.std.proofs.Common.{◌≡◌}
use Rattle.nms_live.specs.Keeping.{HasTaken, IsSameKeeping}
use Rattle.nms_live.proofs.taking.take_until_ended.Given as goal

abbrev pub invariant-loop : goal.invariant-loop
invariant-loop g l = record {
  lane : (l.taker.lane ≡ l.fn.taker.lane) × (l.taker.senders ≡ l.fn.taker.senders);
  same : IsSameKeeping l.fn.keeper l.keeper;
  taken : HasTaken l.fn.keeper l.fn.taker.taken → HasTaken l.keeper l.taker.taken;
}
