-- What the numbers of a plan and its certificate say. This product's own rule.
use Rattle.std.specs.Prelude.{ℕ, ℤ, ◌≡◌, ◌≤◌, ◌==◌, ◌&&◌, Bool, nat_le, nat_lt, List, All, length, map, take, Result, Ok, Err, if◌then◌else◌}
use Rattle.std.specs.List.{list_all}
use Rattle.nms_units.specs.declared.TheConstants.{MOST_PRICE, MOST_SHARES}
use Rattle.nms_quote.specs.Terms.{Terms}
use Rattle.nms_quote.specs.declared.certificate.Cut.{Cut}
use Rattle.nms_quote.specs.declared.certificate.CutKind.{CutKind}
use Rattle.nms_quote.specs.declared.certificate.CutKind.TheVariants as kind
use Rattle.nms_quote.specs.declared.plan.Leg.{Leg}
use Rattle.nms_sweep.specs.Planned.{Planned}
use Rattle.nms_calls.specs.PlanNumbers.{cost_said, cut_numbers, leg_numbers}
use Rattle.nms_calls.specs.declared.call_fault.CallFault.{CallFault}
use Rattle.nms_calls.specs.declared.call_fault.CallFault.TheVariants as fault
use Rattle.nms_calls.specs.declared.plan_numbers.NmsCut.{NmsCut}
use Rattle.nms_calls.specs.declared.plan_numbers.NmsLeg.{NmsLeg}
use Rattle.nms_calls.specs.declared.plan_numbers.NmsPlan.{NmsPlan}

-- the legs and the cuts that a plan counts
abbrev pub legs_of : NmsPlan → List NmsLeg
legs_of n = take n.legs n.leg

abbrev pub cuts_of : NmsPlan → List NmsCut
cuts_of n = take n.cuts n.cut

abbrev pub is_price : ℕ → Bool
is_price price = nat_le 1 price && nat_le price MOST_PRICE

-- a leg's price and shares, and a cut's price and kind, in their ranges
abbrev pub is_leg : NmsLeg → Bool
is_leg leg = is_price leg.price && nat_le leg.shares MOST_SHARES

abbrev pub is_cut : NmsCut → Bool
is_cut cut = is_price cut.price && nat_le cut.kind 2

-- a participant of the roster
abbrev pub is_there : ℕ → NmsLeg → Bool
is_there parts leg = nat_lt leg.part parts

abbrev pub leg_said : NmsLeg → Leg
leg_said leg = record { part = leg.part; price = leg.price; shares = leg.shares }

abbrev pub kind_said : ℕ → ℤ → CutKind
kind_said n marginal = if n == 0 then kind.TooMuch else (if n == 1 then kind.TooLittle else kind.Marginal marginal)

abbrev pub cut_said : NmsCut → Cut
cut_said cut = record { price = cut.price; kind = kind_said cut.kind cut.marginal }

-- the legs and the cuts that a plan counts are such, and nothing is after them
pub record AreWritten (n : NmsPlan) : Type 0 where
  pub legs : n.legs ≤ 32
  pub cuts : n.cuts ≤ 32
  pub leg_places : length n.leg ≡ 32
  pub cut_places : length n.cut ≡ 32
  pub leg : All (λ leg. leg_numbers (leg_said leg) ≡ leg) (legs_of n)
  pub cut : All (λ cut. cut_numbers (cut_said cut) ≡ cut) (cuts_of n)

-- whether all numbers are in their ranges
abbrev pub is_in_range : NmsPlan → Bool
is_in_range n = nat_le n.legs 32 && nat_le n.cuts 32 && list_all is_leg (legs_of n) && list_all is_cut (cuts_of n)

-- the plan for an order, with its certificate, that numbers in their ranges say
abbrev pub said_by : Terms → NmsPlan → Planned
said_by order n = record {
  plan = record {
    version = n.version;
    order = order;
    legs = record { items = map leg_said (legs_of n) };
    filled = n.filled;
    cost = cost_said n.cost_high n.cost_low;
  };
  cuts = map cut_said (cuts_of n);
}

-- what numbers say for an order on a roster of n participants, or the fault of least code: a number out of range comes
-- first, then a participant
abbrev pub plan_said : ℕ → Terms → NmsPlan → Result Planned CallFault
plan_said parts order n =
    if is_in_range n
    then (if list_all (is_there parts) (legs_of n) then Ok (said_by order n) else Err fault.NoParticipant)
    else Err fault.Range
