-- What breaks a plan. Each breach says by itself when it holds; the first that holds is reported. This product's own
-- rule, after 17 CFR 242.600, "intermarket sweep order" and "trade-through", and 242.611. An order's self-help is a
-- part of it (242.611(b)(1)).
use Rattle.std.specs.Prelude.{ℕ, ◌==◌, ◌&&◌, ◌||◌, Bool, true, false, not, nat_lt, List, [], ◌∷◌, Option, Some, None, option_map}
use Rattle.std.specs.List.{find, list_any}
use Rattle.std.specs.Ordering.{int_eq}
use Rattle.nms_quote.specs.Terms.{Terms}
use Rattle.nms_quote.specs.declared.order.OrderSide.{OrderSide}
use Rattle.nms_quote.specs.declared.order.OrderSide.TheVariants.{Buy, Sell}
use Rattle.nms_quote.specs.declared.plan.Leg.{Leg}
use Rattle.nms_quote.specs.declared.plan.Plan.{Plan}
use Rattle.nms_board.specs.View.{Seen}
use Rattle.nms_board.specs.declared.row.Row.{Row}
use Rattle.nms_fee_book.specs.Fees.{Charges}
use Rattle.nms_rules.specs.Faultless.{cost_of, given_by, sum_of}
use Rattle.nms_rules.specs.First.{when, ◌or_else◌}
use Rattle.nms_rules.specs.Usable.{contra_rows, is_allowed, is_better, is_binding}
use Rattle.nms_rules.specs.declared.breach_kind.Breach.{Breach}
use Rattle.nms_rules.specs.declared.breach_kind.Breach.TheVariants as breach

-- ---- the plan as such

abbrev pub is_same_side : OrderSide → OrderSide → Bool
is_same_side Buy Buy = true
is_same_side Sell Sell = true
is_same_side Buy Sell = false
is_same_side Sell Buy = false

abbrev pub is_same_flag : Bool → Bool → Bool
is_same_flag true flag = flag
is_same_flag false flag = not flag

abbrev pub is_same_order : Terms → Terms → Bool
is_same_order one other =
    is_same_side one.side other.side && one.sym == other.sym && one.shares == other.shares && one.limit == other.limit
    && is_same_flag one.manual other.manual
    && one.self_help == other.self_help

-- the plan is of another version than the view
abbrev pub is_other_version : Seen → Plan → Bool
is_other_version seen plan = not (plan.version == seen.version)

-- the plan is for another order than the one given, or for another symbol than the view's
abbrev pub is_other_order : Seen → Terms → Plan → Bool
is_other_order seen order plan = not (is_same_order plan.order order) || not (plan.order.sym == seen.sym)

-- ---- one leg

-- the quotation that a leg goes to
abbrev pub row_for : Seen → OrderSide → Leg → Option Row
row_for seen side leg = find (λ row. row.part == leg.part) (contra_rows side seen)

-- it goes to no quotation, to one of a participant that the order names, or to a manual one that the order does not
-- allow
abbrev pub lacks_quotation : Terms → Option Row → Bool
lacks_quotation order None = true
lacks_quotation order (Some row) = not (is_allowed order row)

abbrev pub has_other_price : Leg → Option Row → Bool
has_other_price leg None = false
has_other_price leg (Some row) = not (leg.price == row.price)

abbrev pub has_no_shares : Leg → Bool
has_no_shares leg = leg.shares == 0

abbrev pub is_over_size : Leg → Option Row → Bool
is_over_size leg None = false
is_over_size leg (Some row) = nat_lt row.size leg.shares

abbrev pub is_beyond_limit : Terms → Leg → Bool
is_beyond_limit order leg = is_better order.side order.limit leg.price

-- ---- some leg

unfoldable pub some_lacks_quotation : Seen → Terms → List Leg → Bool
some_lacks_quotation seen order legs = list_any (λ leg. lacks_quotation order (row_for seen order.side leg)) legs

unfoldable pub some_has_other_price : Seen → Terms → List Leg → Bool
some_has_other_price seen order legs = list_any (λ leg. has_other_price leg (row_for seen order.side leg)) legs

unfoldable pub some_has_no_shares : List Leg → Bool
some_has_no_shares legs = list_any has_no_shares legs

unfoldable pub some_is_over_size : Seen → Terms → List Leg → Bool
some_is_over_size seen order legs = list_any (λ leg. is_over_size leg (row_for seen order.side leg)) legs

unfoldable pub some_is_beyond_limit : Terms → List Leg → Bool
some_is_beyond_limit order legs = list_any (is_beyond_limit order) legs

-- ---- all legs

-- some leg goes to the participant
abbrev pub goes_to : ℕ → List Leg → Bool
goes_to part legs = list_any (λ leg. leg.part == part) legs

-- two legs go to one participant
unfoldable pub has_repeat : List Leg → Bool
has_repeat [] = false
has_repeat (leg ∷ legs) = goes_to leg.part legs || has_repeat legs

-- some leg has a worse price than this one
abbrev pub has_leg_beyond : OrderSide → ℕ → List Leg → Bool
has_leg_beyond side price legs = list_any (λ leg. is_better side price leg.price) legs

-- the legs trade through a protected quotation of a participant that is not named: it is strictly better than the price
-- of some leg and gets less than its full size (17 CFR 242.600, "trade-through"; 242.611(b)(1))
unfoldable pub is_traded_through : Terms → List Leg → Row → Bool
is_traded_through order legs row =
    is_binding order row && nat_lt (given_by legs row.part) row.size && has_leg_beyond order.side row.price legs

-- the first of them, by participant place
abbrev pub first_traded_through : Seen → Terms → List Leg → Option Row
first_traded_through seen order legs = find (is_traded_through order legs) (contra_rows order.side seen)

abbrev pub is_over_asked : Terms → List Leg → Bool
is_over_asked order legs = nat_lt order.shares (sum_of legs)

-- ---- the first that holds

-- what is wrong with a leg by itself
abbrev pub leg_breach : Seen → Terms → List Leg → Option Breach
leg_breach seen order legs =
    when (some_lacks_quotation seen order legs) breach.NoSuchQuotation
    or_else when (some_has_other_price seen order legs) breach.PriceDiffers
    or_else when (some_has_no_shares legs) breach.ZeroLeg
    or_else when (some_is_over_size seen order legs) breach.OverSize
    or_else when (has_repeat legs) breach.Repeated
    or_else when (some_is_beyond_limit order legs) breach.BeyondLimit

-- what is wrong with all legs together
abbrev pub sum_breach : Seen → Terms → List Leg → Option Breach
sum_breach seen order legs =
    when (is_over_asked order legs) breach.OverAsked
    or_else option_map (λ row. breach.TradedThrough row.part) (first_traded_through seen order legs)

-- what breaks a plan first; none if nothing does
abbrev pub breach_of : Seen → Terms → Charges → Plan → Option Breach
breach_of seen order fees plan =
    when (is_other_version seen plan) breach.OtherVersion
    or_else when (is_other_order seen order plan) breach.OtherOrder
    or_else leg_breach seen order plan.legs.items
    or_else sum_breach seen order plan.legs.items
    or_else when (not (plan.filled == sum_of plan.legs.items)) breach.FilledWrong
    or_else when (not (int_eq plan.cost (cost_of fees order.side plan.legs.items))) breach.CostWrong
