-- What an accepted plan fills and costs is within bounds, and so is each marginal.
use Rattle.std.proofs.Common.{ℕ, ◌≡◌, ◌≤◌, ◌+◌, ◌*◌, List, [], ◌∷◌, ◌++◌, get_or, arith}
use Rattle.std.specs.Prelude.{ℤ, pos, negsuc, neg_ℤ, ◌≤ℤ◌}
use Rattle.std.proofs.Math.IntN.{negsuc-*ℤ-pos, pos-*ℤ-pos}
use Rattle.std.proofs.lemmas.Int.{ints}
use Rattle.std.proofs.lemmas.List.Sums.{sum_by_push}
use Rattle.nms_units.specs.declared.TheConstants.{MOST_SHARES}
use Rattle.nms_quote.specs.Terms.{Terms}
use Rattle.nms_quote.specs.declared.certificate.Cut.{Cut}
use Rattle.nms_quote.specs.declared.certificate.CutKind.{CutKind}
use Rattle.nms_quote.specs.declared.certificate.CutKind.TheVariants.{TooMuch, TooLittle, Marginal}
use Rattle.nms_quote.specs.declared.order.OrderSide.{OrderSide}
use Rattle.nms_quote.specs.declared.plan.Leg.{Leg}
use Rattle.nms_quote.specs.declared.plan.Plan.{Plan}
use Rattle.nms_board.specs.View.{Seen}
use Rattle.nms_fee_book.specs.Fees.{Charges, unit_cost_of}
use Rattle.nms_rules.specs.Accepted.{IsAccepted}
use Rattle.nms_rules.specs.Cutoff.{KindHolds}
use Rattle.nms_rules.specs.Faultless.{cost_of, sum_of}
use Rattle.nms_rules.specs.Usable.{Usable, rank_of, usable}
use Rattle.nms_rules.specs.Assignment.{fillable}
use Rattle.nms_rules.proofs.Offered.{cost_of-none, cost_of-push, times-more}
use Rattle.nms_sweep.specs.Bounds.{IsWithinBounds, most_unit}
use Rattle.nms_sweep.specs.Choice.{IsInRange}

-- what legs cost is within bounds
pub record AreWithin (fees : Charges) (side : OrderSide) (legs : List Leg) : Type 0 where
  pub low : neg_ℤ (pos (most_unit * sum_of legs)) ≤ℤ cost_of fees side legs
  pub high : cost_of fees side legs ≤ℤ pos (most_unit * sum_of legs)

pub within-none : (fees : Charges) (side : OrderSide) → AreWithin fees side []
within-none fees side =
    let none = cost_of-none fees side in
    record { low = omega (arith, ints, none); high = omega (arith, ints, none) }

-- and with one more
pub within-push : (fees : Charges) (side : OrderSide) (legs : List Leg) (leg : Leg) → AreWithin fees side legs
    → negsuc 10000000009999999 ≤ℤ unit_cost_of fees leg.part side leg.price
    → unit_cost_of fees leg.part side leg.price ≤ℤ pos 10000000010000000
    → AreWithin fees side (legs ++ leg ∷ [])
within-push fees side legs leg before low high =
    let unit : ℤ = unit_cost_of fees leg.part side leg.price in
    let pays = cost_of-push fees side legs leg in
    let sum : sum_of (legs ++ leg ∷ []) ≡ sum_of legs + leg.shares = sum_by_push (λ (one : Leg). one.shares) legs leg in
    let least = times-more (negsuc 10000000009999999) unit leg.shares low in
    let most = times-more unit (pos 10000000010000000) leg.shares high in
    record {
      low = omega (arith, ints, pays, sum, least, negsuc-*ℤ-pos 10000000009999999 leg.shares, before.low);
      high = omega (arith, ints, pays, sum, most, pos-*ℤ-pos 10000000010000000 leg.shares, before.high);
    }

-- a cut that says what holds has a marginal within its range
in-range : (rows : List Usable) (most : ℕ) (cost cutoff : ℤ) (kind : CutKind) → KindHolds rows most cost cutoff kind → IsInRange kind
in-range rows most cost cutoff TooMuch holds = tt
in-range rows most cost cutoff TooLittle holds = tt
in-range rows most cost cutoff (Marginal marginal) holds = (holds.low, holds.high)

pub within_bounds : (seen : Seen) (asked : Terms) (fees : Charges) (plan : Plan) (cuts : List Cut) → asked.shares ≤ MOST_SHARES
    → AreWithin fees asked.side plan.legs.items → IsAccepted seen asked fees plan cuts → IsWithinBounds plan cuts
within_bounds seen asked fees plan cuts few costs is =
    let rows : List Usable = usable seen asked fees in
    let filled = is.faultless.filled in
    let cost = is.faultless.cost in
    record {
      filled = omega (arith, is.full, few);
      low = omega (arith, ints, costs.low, filled, cost);
      high = omega (arith, ints, costs.high, filled, cost);
      marginals = λ i d below. in-range rows (fillable rows asked.shares) plan.cost (rank_of asked.side (get_or cuts i d).price)
          (get_or cuts i d).kind (is.holds i d below);
    }
