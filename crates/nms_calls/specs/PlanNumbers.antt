-- A plan and its certificate as numbers. This product's own rule.
use Rattle.std.specs.Prelude.{◌≡◌, ◌<◌, ◌+ℤ◌, ◌*ℤ◌, ◌^◌, ℕ, ℤ, pos, List, length, slice_get, Option, Some, None}
use Rattle.nms_quote.specs.Terms.{Terms}
use Rattle.nms_quote.specs.declared.certificate.Cut.{Cut}
use Rattle.nms_quote.specs.declared.certificate.CutKind.{CutKind}
use Rattle.nms_quote.specs.declared.certificate.CutKind.TheVariants as kind
use Rattle.nms_quote.specs.declared.plan.Leg.{Leg}
use Rattle.nms_quote.specs.declared.plan.Plan.{Plan}
use Rattle.nms_board.specs.View.{Seen}
use Rattle.nms_fee_book.specs.Fees.{Charges}
use Rattle.nms_rules.specs.Accepted.{IsAccepted}
use Rattle.nms_rules.specs.Assignment.{IsOptimal}
use Rattle.nms_rules.specs.Faultless.{given_by}
use Rattle.nms_rules.specs.Usable.{usable}
use Rattle.nms_calls.specs.Opened.{Opened, seen_of}
use Rattle.nms_calls.specs.declared.plan_numbers.NmsCut.{NmsCut}
use Rattle.nms_calls.specs.declared.plan_numbers.NmsLeg.{NmsLeg}
use Rattle.nms_calls.specs.declared.plan_numbers.NmsPlan.{NmsPlan}

-- a place without a leg, and one without a cut
abbrev pub no_leg : NmsLeg
no_leg = record { price = 0; shares = 0; part = 0; spare_a = 0; spare_b = 0 }

abbrev pub no_cut : NmsCut
no_cut = record { price = 0; marginal = pos 0; kind = 0; spare = 0 }

abbrev pub leg_numbers : Leg → NmsLeg
leg_numbers leg = record { price = leg.price; shares = leg.shares; part = leg.part; spare_a = 0; spare_b = 0 }

abbrev pub kind_number : CutKind → ℕ
kind_number kind.TooMuch = 0
kind_number kind.TooLittle = 1
kind_number (kind.Marginal marginal) = 2

abbrev pub marginal_of : CutKind → ℤ
marginal_of kind.TooMuch = pos 0
marginal_of kind.TooLittle = pos 0
marginal_of (kind.Marginal marginal) = marginal

abbrev pub cut_numbers : Cut → NmsCut
cut_numbers cut = record { price = cut.price; marginal = marginal_of cut.kind; kind = kind_number cut.kind; spare = 0 }

-- a place of the legs, and one of the cuts
abbrev pub leg_at : Option Leg → NmsLeg
leg_at None = no_leg
leg_at (Some leg) = leg_numbers leg

abbrev pub cut_at : Option Cut → NmsCut
cut_at None = no_cut
cut_at (Some cut) = cut_numbers cut

-- the first places have these legs, and the others none
abbrev pub AreLegs : List NmsLeg → List Leg → Type 0
AreLegs places legs = (place : ℕ) → place < 32 → slice_get places place ≡ Some (leg_at (slice_get legs place))

abbrev pub AreCuts : List NmsCut → List Cut → Type 0
AreCuts places cuts = (place : ℕ) → place < 32 → slice_get places place ≡ Some (cut_at (slice_get cuts place))

-- the amount of two numbers
abbrev pub cost_said : ℤ → ℕ → ℤ
cost_said high low = high *ℤ pos (2 ^ 64) +ℤ pos low

-- the numbers of a plan and its certificate
pub record AreNumbersOf (plan : Plan) (certificate : List Cut) (out : NmsPlan) : Type 0 where
  pub version : out.version ≡ plan.version
  pub cost : cost_said out.cost_high out.cost_low ≡ plan.cost
  pub filled : out.filled ≡ plan.filled
  pub legs : out.legs ≡ length plan.legs.items
  pub cuts : out.cuts ≡ length certificate
  pub leg : AreLegs out.leg plan.legs.items
  pub cut : AreCuts out.cut certificate

-- the numbers of the best lawful plan for an order on what a look shows, with the certificate that shows it
pub record IsBestOn (seen : Seen) (fees : Charges) (order : Terms) (out : NmsPlan) : Type 0 where
  pub plan : Plan
  pub certificate : List Cut
  pub numbers : AreNumbersOf plan certificate out
  pub accepted : IsAccepted seen order fees plan certificate
  pub optimal : IsOptimal (usable seen order fees) order.shares (given_by plan.legs.items)

-- those of the best one on what a look shows of the order's symbol, with the setup's fees
abbrev pub IsBestPlan : Opened → Terms → NmsPlan → Type 0
IsBestPlan opened order out = IsBestOn (seen_of opened order.sym) opened.settings.fees order out
