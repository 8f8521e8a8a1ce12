-- The law of a plan's text: what is written of a plan that fits its fields is read as that plan. This product's own
-- rule.
use Rattle.std.specs.Prelude.{ℕ, ℤ, ⊤, pos, neg_ℤ, ◌≡◌, ◌<◌, ◌≤◌, ◌^◌, ◌<ℤ◌, List, All, Some, length}
use Rattle.nms_units.specs.declared.TheConstants.{MOST_PRICE, MOST_SHARES}
use Rattle.nms_quote.specs.Roster.{Listing}
use Rattle.nms_quote.specs.declared.plan.Leg.{Leg}
use Rattle.nms_quote.specs.declared.plan.Plan.{Plan}
use Rattle.nms_quote.specs.declared.certificate.Cut.{Cut}
use Rattle.nms_quote.specs.declared.certificate.CutKind.{CutKind}
use Rattle.nms_quote.specs.declared.certificate.CutKind.TheVariants as kind
use Rattle.nms_lines.specs.Named.{AreBelow}
use Rattle.nms_lines.specs.PlanReading.{plan_in, said_by}
use Rattle.nms_lines.specs.PlanText.{plan_records, plan_text}
use Rattle.nms_lines.specs.Records.{AreAllRecords}

abbrev pub IsPriceInRange : ℕ → Type 0
IsPriceInRange price = (1 ≤ price) × (price ≤ MOST_PRICE)

-- money that has at most 20 digits of dollars
abbrev pub IsMoneyInRange : ℤ → Type 0
IsMoneyInRange money = (neg_ℤ (pos (10 ^ 29)) <ℤ money) × (money <ℤ pos (10 ^ 29))

abbrev pub IsLegInRange : Listing → Leg → Type 0
IsLegInRange roster leg = (leg.part < length roster.parts) × IsPriceInRange leg.price × (leg.shares ≤ MOST_SHARES)

abbrev pub IsKindInRange : CutKind → Type 0
IsKindInRange kind.TooMuch = ⊤
IsKindInRange kind.TooLittle = ⊤
IsKindInRange (kind.Marginal money) = IsMoneyInRange money

abbrev pub IsCutInRange : Cut → Type 0
IsCutInRange cut = IsPriceInRange cut.price × IsKindInRange cut.kind

-- a plan of the roster whose numbers fit the fields of its text. A plan whose version has at most 8 digits, that
-- fills at most 999,999,999 shares and whose money is in range is one: its types give the rest
pub record FitsText (roster : Listing) (plan : Plan) (certificate : List Cut) : Type 0 where
  pub version : plan.version < 10 ^ 8
  pub sym : plan.order.sym < length roster.syms
  pub some : 1 ≤ plan.order.shares
  pub shares : plan.order.shares ≤ MOST_SHARES
  pub limit : IsPriceInRange plan.order.limit
  pub self_help : AreBelow (length roster.parts) plan.order.self_help
  pub filled : plan.filled ≤ MOST_SHARES
  pub cost : IsMoneyInRange plan.cost
  pub legs : All (IsLegInRange roster) plan.legs.items
  pub few_legs : length plan.legs.items ≤ 32
  pub cuts : All IsCutInRange certificate
  pub few_cuts : length certificate ≤ 32

-- its text has its records and no others, and these say what it says
abbrev pub IsReadBack : Listing → Plan → List Cut → Type 0
IsReadBack roster plan certificate =
    AreAllRecords (Some (plan_text roster plan certificate)) (plan_records roster plan certificate)
    × (plan_in roster (plan_records roster plan certificate) ≡ Some (said_by plan certificate))

-- this holds for each plan that fits
abbrev pub ReadsAsWritten : Listing → Type 0
ReadsAsWritten roster = (plan : Plan) (certificate : List Cut) → FitsText roster plan certificate → IsReadBack roster plan certificate
