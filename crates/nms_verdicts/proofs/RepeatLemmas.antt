-- How tests of each pair of a list go from one element to the next: two legs to one participant, two cuts out of order.
use Rattle.std.proofs.Common.{ℕ, ◌≡◌, ◌<◌, ◌≤◌, ◌+◌, true, false, List, get_or, drop, length, sym, ap, ◌∙◌}
use Rattle.std.proofs.lemmas.Bool.{false≢true}
use Rattle.std.proofs.lemmas.List.{at_drop_more, drop_all}
use Rattle.nms_quote.specs.declared.certificate.Cut.{Cut}
use Rattle.nms_quote.specs.declared.order.OrderSide.{OrderSide}
use Rattle.nms_quote.specs.declared.plan.Leg.{Leg}
use Rattle.nms_rules.specs.Breach.{goes_to, has_repeat}
use Rattle.nms_cert.specs.Doubts.{is_not_better, is_out_of_order}
use Rattle.nms_verdicts.proofs.FindLemmas.{or-false}

pub repeat-more : (legs : List Leg) (i : ℕ) (d : Leg) → i < length legs → has_repeat (drop i legs) ≡ true
    → goes_to (get_or legs i d).part (drop (i + 1) legs) ≡ false → has_repeat (drop (i + 1) legs) ≡ true
unfolding has_repeat
repeat-more legs i d below some none = or-false _ _ none (sym (at_drop_more has_repeat legs i d below) ∙ some)

pub repeat-none : (legs : List Leg) (i : ℕ) → length legs ≤ i → has_repeat (drop i legs) ≡ true → ⊥
unfolding has_repeat
repeat-none legs i past some = false≢true (sym (ap has_repeat (drop_all i legs past)) ∙ some)

pub order-more : (side : OrderSide) (cuts : List Cut) (i : ℕ) (d : Cut) → i < length cuts → is_out_of_order side (drop i cuts) ≡ true
    → is_not_better side (get_or cuts i d).price (drop (i + 1) cuts) ≡ false → is_out_of_order side (drop (i + 1) cuts) ≡ true
unfolding is_out_of_order
order-more side cuts i d below some none = or-false _ _ none (sym (at_drop_more (is_out_of_order side) cuts i d below) ∙ some)

pub order-none : (side : OrderSide) (cuts : List Cut) (i : ℕ) → length cuts ≤ i → is_out_of_order side (drop i cuts) ≡ true → ⊥
unfolding is_out_of_order
order-none side cuts i past some = false≢true (sym (ap (is_out_of_order side) (drop_all i cuts past)) ∙ some)
