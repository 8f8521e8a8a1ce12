-- The breach that is reported holds by itself.
use Rattle.std.proofs.Common.{◌≡◌, true, List, Option, Some, refl}
use Rattle.std.specs.Prelude.{◌==◌, IfSome, not, option_map}
use Rattle.std.specs.List.{list_any}
use Rattle.std.specs.Ordering.{int_eq}
use Rattle.nms_quote.specs.Terms.{Terms}
use Rattle.nms_quote.specs.declared.plan.Leg.{Leg}
use Rattle.nms_quote.specs.declared.plan.Plan.{Plan}
use Rattle.nms_board.specs.View.{Seen}
use Rattle.nms_board.specs.declared.row.Row.{Row}
use Rattle.nms_fee_book.specs.Fees.{Charges}
use Rattle.nms_rules.specs.Breach.{breach_of, first_traded_through, has_repeat, is_other_order, is_other_version, is_over_asked}
use Rattle.nms_rules.specs.Breach.{leg_breach, sum_breach}
use Rattle.nms_rules.specs.First.{when, ◌or_else◌}
use Rattle.nms_rules.specs.Breach.{some_has_no_shares, some_has_other_price, some_is_beyond_limit, some_is_over_size, some_lacks_quotation}
use Rattle.nms_rules.specs.Faultless.{cost_of, sum_of}
use Rattle.nms_rules.specs.declared.breach_kind.Breach.{Breach}
use Rattle.nms_rules.specs.declared.breach_kind.Breach.TheVariants as breach
use Rattle.nms_verdicts.specs.LegPlaces.{breaks}
use Rattle.nms_verdicts.proofs.FirstLemmas.{map-holds, next-holds, or-holds, some-holds, when-holds}

-- the condition of each breach
abbrev pub Holds : Seen → Terms → Charges → Plan → Breach → Type 0
Holds seen order fees plan breach.OtherVersion = is_other_version seen plan ≡ true
Holds seen order fees plan breach.OtherOrder = is_other_order seen order plan ≡ true
Holds seen order fees plan breach.NoSuchQuotation = list_any (breaks seen order breach.NoSuchQuotation) plan.legs.items ≡ true
Holds seen order fees plan breach.PriceDiffers = list_any (breaks seen order breach.PriceDiffers) plan.legs.items ≡ true
Holds seen order fees plan breach.ZeroLeg = list_any (breaks seen order breach.ZeroLeg) plan.legs.items ≡ true
Holds seen order fees plan breach.OverSize = list_any (breaks seen order breach.OverSize) plan.legs.items ≡ true
Holds seen order fees plan breach.Repeated = has_repeat plan.legs.items ≡ true
Holds seen order fees plan breach.BeyondLimit = list_any (breaks seen order breach.BeyondLimit) plan.legs.items ≡ true
Holds seen order fees plan breach.OverAsked = is_over_asked order plan.legs.items ≡ true
Holds seen order fees plan (breach.TradedThrough part) =
    (row : Row) × (first_traded_through seen order plan.legs.items ≡ Some row) × (part ≡ row.part)
Holds seen order fees plan breach.FilledWrong = not (plan.filled == sum_of plan.legs.items) ≡ true
Holds seen order fees plan breach.CostWrong = not (int_eq plan.cost (cost_of fees order.side plan.legs.items)) ≡ true

legs_hold : (seen : Seen) (order : Terms) (fees : Charges) (plan : Plan)
    → IfSome (leg_breach seen order plan.legs.items) (Holds seen order fees plan)
unfolding some_has_no_shares some_has_other_price some_is_beyond_limit some_is_over_size some_lacks_quotation
legs_hold seen order fees plan =
    let P : Breach → Type 0 = Holds seen order fees plan in
    let legs : List Leg = plan.legs.items in
    let limit : Option Breach = when (some_is_beyond_limit order legs) breach.BeyondLimit in
    let repeated : Option Breach = when (has_repeat legs) breach.Repeated or_else limit in
    let size : Option Breach = when (some_is_over_size seen order legs) breach.OverSize or_else repeated in
    let zero : Option Breach = when (some_has_no_shares legs) breach.ZeroLeg or_else size in
    let price : Option Breach = when (some_has_other_price seen order legs) breach.PriceDiffers or_else zero in
    next-holds P (some_lacks_quotation seen order legs) breach.NoSuchQuotation price (λ e. e)
    (next-holds P (some_has_other_price seen order legs) breach.PriceDiffers zero (λ e. e)
    (next-holds P (some_has_no_shares legs) breach.ZeroLeg size (λ e. e)
    (next-holds P (some_is_over_size seen order legs) breach.OverSize repeated (λ e. e)
    (next-holds P (has_repeat legs) breach.Repeated limit (λ e. e)
    (when-holds P (some_is_beyond_limit order legs) breach.BeyondLimit (λ e. e))))))

sums_hold : (seen : Seen) (order : Terms) (fees : Charges) (plan : Plan)
    → IfSome (sum_breach seen order plan.legs.items) (Holds seen order fees plan)
sums_hold seen order fees plan =
    let P : Breach → Type 0 = Holds seen order fees plan in
    let legs : List Leg = plan.legs.items in
    let through : Option Row = first_traded_through seen order legs in
    next-holds P (is_over_asked order legs) breach.OverAsked (option_map (λ row. breach.TradedThrough row.part) through) (λ e. e)
    (map-holds P (λ (row : Row). breach.TradedThrough row.part) through (λ row is. (row, is, refl)))

each_holds : (seen : Seen) (order : Terms) (fees : Charges) (plan : Plan)
    → IfSome (breach_of seen order fees plan) (Holds seen order fees plan)
each_holds seen order fees plan =
    let P : Breach → Type 0 = Holds seen order fees plan in
    let legs : List Leg = plan.legs.items in
    let cost : Option Breach = when (not (int_eq plan.cost (cost_of fees order.side legs))) breach.CostWrong in
    let filled : Option Breach = when (not (plan.filled == sum_of legs)) breach.FilledWrong or_else cost in
    let sums : Option Breach = sum_breach seen order legs or_else filled in
    let by_leg : Option Breach = leg_breach seen order legs or_else sums in
    let other : Option Breach = when (is_other_order seen order plan) breach.OtherOrder or_else by_leg in
    next-holds P (is_other_version seen plan) breach.OtherVersion other (λ e. e)
    (next-holds P (is_other_order seen order plan) breach.OtherOrder by_leg (λ e. e)
    (or-holds P (leg_breach seen order legs) sums (legs_hold seen order fees plan) (λ _.
    or-holds P (sum_breach seen order legs) filled (sums_hold seen order fees plan) (λ _.
    next-holds P (not (plan.filled == sum_of legs)) breach.FilledWrong cost (λ e. e)
    (when-holds P (not (int_eq plan.cost (cost_of fees order.side legs))) breach.CostWrong (λ e. e))))))

-- the breach that is reported holds
pub told_holds : (seen : Seen) (order : Terms) (fees : Charges) (plan : Plan) (why : Breach) → breach_of seen order fees plan ≡ Some why
    → Holds seen order fees plan why
told_holds seen order fees plan why is =
    some-holds (Holds seen order fees plan) (breach_of seen order fees plan) why (each_holds seen order fees plan) is
