-- Legs of a plan, each with the quotation that it goes to, and the legs that have a breach by themselves. The conditions are
-- those of `Breach` of `nms_rules`. This product's own rule.
use Rattle.std.specs.Prelude.{ℕ, ◌≡◌, ◌==◌, ◌+◌, ◌<◌, Bool, true, false, List, Some, drop, position, slice_get, slice_index_or}
use Rattle.nms_quote.specs.Terms.{Terms}
use Rattle.nms_quote.specs.declared.order.OrderSide.{OrderSide}
use Rattle.nms_quote.specs.declared.plan.Leg.{Leg}
use Rattle.nms_board.specs.View.{Seen}
use Rattle.nms_rules.specs.Breach.{goes_to, has_no_shares, has_other_price, is_beyond_limit, is_over_size, lacks_quotation, row_for}
use Rattle.nms_rules.specs.declared.breach_kind.Breach.{Breach}
use Rattle.nms_rules.specs.declared.breach_kind.Breach.TheVariants as breach
use Rattle.nms_verdicts.specs.declared.plan_places.leg_place.LegPlace.{LegPlace}

-- the leg of that number, counted from 0, and the quotation that this leg goes to
pub record IsLegPlace (seen : Seen) (side : OrderSide) (legs : List Leg) (place : LegPlace) : Type 0 where
  pub own : slice_get legs place.number ≡ Some place.leg
  pub quotation : place.quotation ≡ row_for seen side place.leg

-- whether a leg by itself has a breach: the condition of that breach
abbrev pub breaks : Seen → Terms → Breach → Leg → Bool
breaks seen order breach.NoSuchQuotation leg = lacks_quotation order (row_for seen order.side leg)
breaks seen order breach.PriceDiffers leg = has_other_price leg (row_for seen order.side leg)
breaks seen order breach.ZeroLeg leg = has_no_shares leg
breaks seen order breach.OverSize leg = is_over_size leg (row_for seen order.side leg)
breaks seen order breach.BeyondLimit leg = is_beyond_limit order leg
breaks seen order breach.OtherVersion leg = false
breaks seen order breach.OtherOrder leg = false
breaks seen order breach.Repeated leg = false
breaks seen order breach.OverAsked leg = false
breaks seen order (breach.TradedThrough part) leg = false
breaks seen order breach.FilledWrong leg = false
breaks seen order breach.CostWrong leg = false

-- the first leg that has a breach by itself
pub record IsBrokenLeg (seen : Seen) (order : Terms) (legs : List Leg) (why : Breach) (place : LegPlace) : Type 0 where
  pub stands : IsLegPlace seen order.side legs place
  pub holds : breaks seen order why place.leg ≡ true
  pub first : position (breaks seen order why) legs ≡ Some place.number

-- the first leg with a later one to the same participant, and the first such later one
pub record IsRepeat (seen : Seen) (side : OrderSide) (legs : List Leg) (one other : LegPlace) : Type 0 where
  pub stands : IsLegPlace seen side legs one
  pub stands_too : IsLegPlace seen side legs other
  pub before : one.number < other.number
  pub same : one.leg.part ≡ other.leg.part
  -- no leg before it has a later one to the same participant
  pub first : (k : ℕ) → k < one.number → (d : Leg) → goes_to (slice_index_or legs k d).part (drop (k + 1) legs) ≡ false
  -- no leg between the two goes there
  pub next : (k : ℕ) → one.number < k → k < other.number → (d : Leg) → ((slice_index_or legs k d).part == one.leg.part) ≡ false
