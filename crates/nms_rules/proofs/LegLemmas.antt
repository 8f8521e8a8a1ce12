-- How sums over legs grow by one leg.
use Rattle.std.proofs.Common.{◌≡◌, List, [], ◌∷◌, ◌++◌, refl}
use Rattle.std.specs.Prelude.{pos, ◌+ℤ◌}
use Rattle.nms_quote.specs.declared.order.OrderSide.{OrderSide}
use Rattle.nms_quote.specs.declared.plan.Leg.{Leg}
use Rattle.nms_fee_book.specs.Fees.{Charges}
use Rattle.nms_rules.specs.Faultless.{cost_of, leg_cost}
use Rattle.std.proofs.lemmas.Int.{ints}
use Rattle.std.proofs.Common.{arith}

pub cost_of-none : (fees : Charges) (side : OrderSide) → cost_of fees side [] ≡ pos 0
unfolding cost_of
cost_of-none fees side = refl

pub cost_of-push : (fees : Charges) (side : OrderSide) (legs : List Leg) (leg : Leg)
    → cost_of fees side (legs ++ leg ∷ []) ≡ cost_of fees side legs +ℤ leg_cost fees side leg
unfolding cost_of
cost_of-push fees side [] leg = omega (arith, ints)
cost_of-push fees side (first ∷ legs) leg = omega (arith, ints, cost_of-push fees side legs leg)
