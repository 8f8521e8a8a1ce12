-- `repeat_in`: what holds in each turn of its loop: `some` and `none`.
use Rattle.std.proofs.Common.{ℕ, ◌≡◌, ◌<◌, ◌+◌, drop, false, get_or, true}
use Rattle.nms_quote.specs.declared.plan.Leg.{Leg}
use Rattle.nms_rules.specs.Breach.{goes_to, has_repeat}
use Rattle.nms_verdicts.proofs.plan_places.leg_tests.repeat_in.Given as goal

-- two of the legs from here on go to one participant, and no leg so far has a later one to the same participant
abbrev pub invariant-loop-first : goal.invariant-loop-first
invariant-loop-first l = record {
  some : has_repeat (drop l.first l.legs) ≡ true;
  none : (k : ℕ) → k < l.first → (d : Leg) → goes_to (get_or l.legs k d).part (drop (k + 1) l.legs) ≡ false;
}
