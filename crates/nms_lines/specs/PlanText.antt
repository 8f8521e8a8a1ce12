-- A plan and its certificate as records: the plan, its legs, its cuts, and an end. This product's own rule.
use Rattle.std.specs.Prelude.{ℕ, Bool, true, false, List, [], ◌∷◌, ◌++◌, codes, map}
use Rattle.std.specs.Fmt.{decimal}
use Rattle.nms_units.specs.Price.{price_text}
use Rattle.nms_units.specs.Money.{money_text}
use Rattle.nms_quote.specs.Roster.{Listing, part_text, symbol_text}
use Rattle.nms_quote.specs.Terms.{Terms}
use Rattle.nms_quote.specs.declared.order.OrderSide.{OrderSide}
use Rattle.nms_quote.specs.declared.order.OrderSide.TheVariants.{Buy, Sell}
use Rattle.nms_quote.specs.declared.plan.Leg.{Leg}
use Rattle.nms_quote.specs.declared.plan.Plan.{Plan}
use Rattle.nms_quote.specs.declared.certificate.Cut.{Cut}
use Rattle.nms_quote.specs.declared.certificate.CutKind.{CutKind}
use Rattle.nms_quote.specs.declared.certificate.CutKind.TheVariants as kind
use Rattle.nms_lines.specs.Layout.{Record}
use Rattle.nms_lines.specs.Named.{named_fields}
use Rattle.nms_lines.specs.Text.{text_of}

-- the letter of an order's side
abbrev pub side_letter : OrderSide → List ℕ
side_letter Buy = codes "B"
side_letter Sell = codes "S"

-- the flag of an order that may trade with manual quotations
abbrev pub flag_text : Bool → List ℕ
flag_text true = codes "M"
flag_text false = []

-- side,sym,shares,limit,flag: the terms of an order for the symbol of that name
abbrev pub terms_fields : List ℕ → Terms → Record
terms_fields name order =
    side_letter order.side ∷ name ∷ decimal order.shares ∷ price_text order.limit ∷ flag_text order.manual ∷ []

-- the terms of an order, within the record of its plan
abbrev pub order_fields : Listing → Terms → Record
order_fields roster order = terms_fields (symbol_text roster order.sym) order

-- version,side,sym,shares,limit,flag,filled,cost: the fields of a plan for the symbol of that name
abbrev pub plan_fields : List ℕ → Plan → Record
plan_fields name plan = decimal plan.version ∷ (terms_fields name plan.order ++ (decimal plan.filled ∷ money_text plan.cost ∷ []))

-- PLAN,version,side,sym,shares,limit,flag,filled,cost, and the participants named, if there are any
abbrev pub plan_record : Listing → Plan → Record
plan_record roster plan =
    codes "PLAN" ∷ decimal plan.version ∷ (order_fields roster plan.order
    ++ (decimal plan.filled ∷ money_text plan.cost ∷ named_fields roster plan.order.self_help))

-- LEG,part,price,shares
abbrev pub leg_record : Listing → Leg → Record
leg_record roster leg = codes "LEG" ∷ part_text roster leg.part ∷ price_text leg.price ∷ decimal leg.shares ∷ []

-- what a cut says, and the money that one more share costs, if it says that
abbrev pub kind_fields : CutKind → Record
kind_fields kind.TooMuch = codes "TOOMUCH" ∷ [] ∷ []
kind_fields kind.TooLittle = codes "TOOLITTLE" ∷ [] ∷ []
kind_fields (kind.Marginal money) = codes "MARGINAL" ∷ money_text money ∷ []

-- CUT,price,kind,value
abbrev pub cut_record : Cut → Record
cut_record cut = codes "CUT" ∷ price_text cut.price ∷ kind_fields cut.kind

-- END
abbrev pub end_record : Record
end_record = codes "END" ∷ []

-- all of them, in order
abbrev pub plan_records : Listing → Plan → List Cut → List Record
plan_records roster plan cuts = plan_record roster plan
    ∷ (map (leg_record roster) plan.legs.items ++ (map cut_record cuts ++ (end_record ∷ [])))

-- the text of a plan and its certificate
abbrev pub plan_text : Listing → Plan → List Cut → List ℕ
plan_text roster plan cuts = text_of (plan_records roster plan cuts)
