-- `worst_of`: what holds in each turn of its loop: `within`, `worst` and `first`.
use Rattle.std.proofs.Common.{ℕ, ◌≡◌, ◌<◌, false, get_or, length, true}
use Rattle.nms_quote.specs.declared.plan.Leg.{Leg}
use Rattle.nms_rules.specs.Usable.{is_better}
use Rattle.nms_verdicts.proofs.plan_places.passed_over.worst_of.Given as goal

-- no leg so far has a worse price, and each before it has a better one
abbrev pub invariant-loop-at : goal.invariant-loop-at
invariant-loop-at l = record {
  within : l.worst < length l.legs;
  worst : (d : Leg) (k : ℕ) → k < l.at → is_better l.side (get_or l.legs l.worst d).price (get_or l.legs k d).price ≡ false;
  first : (d : Leg) (k : ℕ) → k < l.worst → is_better l.side (get_or l.legs k d).price (get_or l.legs l.worst d).price ≡ true;
}
