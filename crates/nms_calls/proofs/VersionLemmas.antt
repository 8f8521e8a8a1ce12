-- The rules look at a version in one place only: whether the plan's is that of the look. So the plan on one look is the plan on
-- the look with another version, once it has that version too.
use Rattle.std.proofs.Common.{◌≡◌, ◌==◌, ℕ, List, refl}
use Rattle.nms_quote.specs.Terms.{Terms}
use Rattle.nms_quote.specs.declared.certificate.Cut.{Cut}
use Rattle.nms_quote.specs.declared.plan.Plan.{Plan}
use Rattle.nms_board.specs.View.{Seen}
use Rattle.nms_cert.specs.Doubts.{doubt_of}
use Rattle.nms_fee_book.specs.Fees.{Charges}
use Rattle.nms_rules.specs.Accepted.{IsAccepted}
use Rattle.nms_rules.specs.Breach.{some_has_other_price, some_is_over_size, some_lacks_quotation}
use Rattle.nms_calls.specs.PlanNumbers.{AreNumbersOf}
use Rattle.nms_calls.specs.declared.plan_numbers.NmsPlan.{NmsPlan}

-- its certificate is accepted there too
pub accepted_at : (seen : Seen) (order : Terms) (fees : Charges) (plan : Plan) (cuts : List Cut) (n : ℕ)
    → IsAccepted seen order fees plan cuts → IsAccepted (record seen { version = n }) order fees (record plan { version = n }) cuts
accepted_at seen order fees plan cuts n is = record {
  faultless = record {
    version = refl;
    order = is.faultless.order;
    symbol = is.faultless.symbol;
    shares = is.faultless.shares;
    prices = is.faultless.prices;
    once = is.faultless.once;
    lawful = is.faultless.lawful;
    filled = is.faultless.filled;
    cost = is.faultless.cost;
  };
  full = is.full;
  each_price = is.each_price;
  no_other = is.no_other;
  best_first = is.best_first;
  holds = is.holds;
}

-- its numbers are those before, except the version
pub numbers_at : (plan : Plan) (cuts : List Cut) (out : NmsPlan) (n : ℕ) → AreNumbersOf plan cuts out
    → AreNumbersOf (record plan { version = n }) cuts (record out { version = n })
numbers_at plan cuts out n are = record {
  version = refl;
  cost = are.cost;
  filled = are.filled;
  legs = are.legs;
  cuts = are.cuts;
  leg = are.leg;
  cut = are.cut;
}

-- if one version is that of a look exactly if another is the second version, the doubt about the plan is the same
pub doubt_at : (seen : Seen) (order : Terms) (fees : Charges) (plan : Plan) (cuts : List Cut) (own n : ℕ)
    → (own == seen.version) ≡ (plan.version == n)
    → doubt_of seen order fees (record plan { version = own }) cuts ≡ doubt_of (record seen { version = n }) order fees plan cuts
unfolding some_lacks_quotation some_has_other_price some_is_over_size
doubt_at seen order fees plan cuts own n same = rw same refl
