-- `out_of_order_in`: what holds in each turn of its loop: `some` and `none`.
use Rattle.std.proofs.Common.{ℕ, ◌≡◌, ◌<◌, ◌+◌, drop, false, get_or, true}
use Rattle.nms_quote.specs.declared.certificate.Cut.{Cut}
use Rattle.nms_cert.specs.Doubts.{is_not_better, is_out_of_order}
use Rattle.nms_verdicts.proofs.plan_places.cut_tests.out_of_order_in.Given as goal

-- one of the cuts from here on is not at a better price than a later one, and each so far is better than all later ones
abbrev pub invariant-loop-first : goal.invariant-loop-first
invariant-loop-first l = record {
  some : is_out_of_order l.side (drop l.first l.cuts) ≡ true;
  none : (k : ℕ) → k < l.first → (d : Cut) → is_not_better l.side (get_or l.cuts k d).price (drop (k + 1) l.cuts) ≡ false;
}
