-- The place of a breach in a plan, what was found there and what was expected. Each place follows from the breach's condition
-- (`Breach` of `nms_rules`). This product's own rule, after 17 CFR 242.600, "trade-through", and 242.611(b)(1).
use Rattle.std.specs.Prelude.{ℕ, ◌≡◌, ◌≢◌, ◌<◌, All, Any, true, false, List, filter, map, slice_index_or}
use Rattle.nms_quote.specs.Terms.{Terms}
use Rattle.nms_quote.specs.declared.order.OrderSide.{OrderSide}
use Rattle.nms_quote.specs.declared.plan.Leg.{Leg}
use Rattle.nms_quote.specs.declared.plan.Plan.{Plan}
use Rattle.nms_board.specs.View.{Seen}
use Rattle.nms_board.specs.declared.row.Row.{Row}
use Rattle.nms_fee_book.specs.Fees.{Charges}
use Rattle.nms_rules.specs.Breach.{is_other_order, is_other_version, is_over_asked, is_traded_through}
use Rattle.nms_rules.specs.Faultless.{cost_of, given_by, sum_of}
use Rattle.nms_rules.specs.Usable.{contra_rows, is_better}
use Rattle.nms_rules.specs.declared.breach_kind.Breach.{Breach}
use Rattle.nms_rules.specs.declared.breach_kind.Breach.TheVariants as breach
use Rattle.nms_verdicts.specs.LegPlaces.{IsBrokenLeg, IsLegPlace, IsRepeat}
use Rattle.nms_verdicts.specs.declared.plan_places.breach_places.BreachPlace.{BreachPlace}
use Rattle.nms_verdicts.specs.declared.plan_places.breach_places.BreachPlace.TheVariants as place
use Rattle.nms_verdicts.specs.declared.plan_places.leg_place.LegPlace.{LegPlace}
use Rattle.nms_verdicts.specs.declared.plan_places.passed_over.PassedOver.{PassedOver}

-- the quotations that the legs trade through, by participant place, each with the shares that it gets
abbrev pub passed_by : List Leg → Row → PassedOver
passed_by legs row = record { row = row; given = given_by legs row.part }

abbrev pub passed_over : Seen → Terms → List Leg → List PassedOver
passed_over seen order legs = map (passed_by legs) (filter (is_traded_through order legs) (contra_rows order.side seen))

-- the first leg at the worst price of all
pub record IsWorst (seen : Seen) (side : OrderSide) (legs : List Leg) (at : LegPlace) : Type 0 where
  pub stands : IsLegPlace seen side legs at
  pub worst : All (λ leg. is_better side at.leg.price leg.price ≡ false) legs
  pub first : (k : ℕ) → k < at.number → (d : Leg) → is_better side (slice_index_or legs k d).price at.leg.price ≡ true

-- the quotations that are traded through, all at better prices than the plan's worst one, with the one that the breach names
pub record IsThrough (seen : Seen) (order : Terms) (legs : List Leg) (part : ℕ) (at : LegPlace) (passed : List PassedOver) : Type 0 where
  pub worst : IsWorst seen order.side legs at
  pub rows : passed ≡ passed_over seen order legs
  pub better : All (λ it. is_better order.side it.row.price at.leg.price ≡ true) passed
  pub named : Any (λ it. it.row.part ≡ part) passed

-- what a place says of a breach of a plan. No breach has the place of another kind
abbrev pub IsBreachPlace : Seen → Terms → Charges → Plan → Breach → BreachPlace → Type 0
IsBreachPlace seen order fees plan breach.OtherVersion (place.OtherVersion found expected) =
    (found ≡ plan.version) × (expected ≡ seen.version) × (is_other_version seen plan ≡ true)
IsBreachPlace seen order fees plan breach.OtherOrder (place.OtherOrder found expected sym) =
    (found ≡ plan.order) × (expected ≡ order) × (sym ≡ seen.sym) × (is_other_order seen order plan ≡ true)
IsBreachPlace seen order fees plan breach.PriceDiffers (place.PriceDiffers leg) =
    IsBrokenLeg seen order plan.legs.items breach.PriceDiffers leg
IsBreachPlace seen order fees plan breach.ZeroLeg (place.ZeroLeg leg) = IsBrokenLeg seen order plan.legs.items breach.ZeroLeg leg
IsBreachPlace seen order fees plan breach.OverSize (place.OverSize leg) = IsBrokenLeg seen order plan.legs.items breach.OverSize leg
IsBreachPlace seen order fees plan breach.NoSuchQuotation (place.NoSuchQuotation leg) =
    IsBrokenLeg seen order plan.legs.items breach.NoSuchQuotation leg
IsBreachPlace seen order fees plan breach.BeyondLimit (place.BeyondLimit leg limit) =
    IsBrokenLeg seen order plan.legs.items breach.BeyondLimit leg × (limit ≡ order.limit)
IsBreachPlace seen order fees plan breach.Repeated (place.Repeated first again) = IsRepeat seen order.side plan.legs.items first again
IsBreachPlace seen order fees plan breach.OverAsked (place.OverAsked found expected) =
    (found ≡ sum_of plan.legs.items) × (expected ≡ order.shares) × (is_over_asked order plan.legs.items ≡ true)
IsBreachPlace seen order fees plan (breach.TradedThrough part) (place.TradedThrough worst passed) =
    IsThrough seen order plan.legs.items part worst passed.items
IsBreachPlace seen order fees plan breach.FilledWrong (place.FilledWrong found expected) =
    (found ≡ plan.filled) × (expected ≡ sum_of plan.legs.items) × (found ≢ expected)
IsBreachPlace seen order fees plan breach.CostWrong (place.CostWrong found expected) =
    (found ≡ plan.cost) × (expected ≡ cost_of fees order.side plan.legs.items) × (found ≢ expected)
IsBreachPlace seen order fees plan _ _ = ⊥
