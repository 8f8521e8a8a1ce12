-- A plan without a breach: no test of `specs/Breach` holds.
use Rattle.std.proofs.Common.{◌≡◌, Bool, true, false, Option, Some, None, List, refl, ap, sym, ◌==◌}
use Rattle.std.specs.Prelude.{not, option_map}
use Rattle.std.specs.Option.{is_some}
use Rattle.std.specs.Ordering.{int_eq}
use Rattle.std.proofs.lemmas.Bool.{false≢true}
use Rattle.nms_quote.specs.Terms.{Terms}
use Rattle.nms_quote.specs.declared.plan.Leg.{Leg}
use Rattle.nms_quote.specs.declared.plan.Plan.{Plan}
use Rattle.nms_board.specs.View.{Seen}
use Rattle.nms_board.specs.declared.row.Row.{Row}
use Rattle.nms_fee_book.specs.Fees.{Charges}
use Rattle.nms_rules.specs.Breach.{breach_of, first_traded_through, has_repeat, is_other_order, is_other_version, is_over_asked, leg_breach}
use Rattle.nms_rules.specs.Breach.{some_has_no_shares, some_has_other_price, some_is_beyond_limit, some_is_over_size, some_lacks_quotation}
use Rattle.nms_rules.specs.Breach.{sum_breach}
use Rattle.nms_rules.specs.Faultless.{cost_of, sum_of}
use Rattle.nms_rules.specs.First.{when, ◌or_else◌}
use Rattle.nms_rules.specs.declared.breach_kind.Breach.{Breach}
use Rattle.nms_rules.specs.declared.breach_kind.Breach.TheVariants as breach

-- no test holds
pub record Passes (seen : Seen) (order : Terms) (fees : Charges) (plan : Plan) : Type 0 where
  pub version : is_other_version seen plan ≡ false
  pub same : is_other_order seen order plan ≡ false
  pub quotation : some_lacks_quotation seen order plan.legs.items ≡ false
  pub price : some_has_other_price seen order plan.legs.items ≡ false
  pub shares : some_has_no_shares plan.legs.items ≡ false
  pub size : some_is_over_size seen order plan.legs.items ≡ false
  pub once : has_repeat plan.legs.items ≡ false
  pub limit : some_is_beyond_limit order plan.legs.items ≡ false
  pub asked : is_over_asked order plan.legs.items ≡ false
  pub through : first_traded_through seen order plan.legs.items ≡ None
  pub filled : not (plan.filled == sum_of plan.legs.items) ≡ false
  pub cost : not (int_eq plan.cost (cost_of fees order.side plan.legs.items)) ≡ false

some-none : {X : Type 0} (x : X) → Some x ≡ None → ⊥
some-none x e = false≢true (sym (ap is_some e))

or-none : (one other : Option Breach) → one or_else other ≡ None → (one ≡ None) × (other ≡ None)
or-none (Some found) other e = absurd (some-none found e)
or-none None other e = (refl, e)

none-or : (one other : Option Breach) → one ≡ None → other ≡ None → one or_else other ≡ None
none-or (Some found) other e f = absurd (some-none found e)
none-or None other e f = f

when-none : (holds : Bool) (found : Breach) → when holds found ≡ None → holds ≡ false
when-none true found e = absurd (some-none found e)
when-none false found e = refl

none-when : (holds : Bool) (found : Breach) → holds ≡ false → when holds found ≡ None
none-when true found e = absurd (false≢true (sym e))
none-when false found e = refl

map-none : (f : Row → Breach) (found : Option Row) → option_map f found ≡ None → found ≡ None
map-none f (Some row) e = absurd (some-none (f row) e)
map-none f None e = refl

none-map : (f : Row → Breach) (found : Option Row) → found ≡ None → option_map f found ≡ None
none-map f (Some row) e = absurd (some-none row e)
none-map f None e = refl

pub passes-none : (seen : Seen) (order : Terms) (fees : Charges) (plan : Plan) → breach_of seen order fees plan ≡ None
    → Passes seen order fees plan
passes-none seen order fees plan none =
    let legs : List Leg = plan.legs.items in
    let filled_differs : Bool = not (plan.filled == sum_of legs) in
    let cost_differs : Bool = not (int_eq plan.cost (cost_of fees order.side legs)) in
    let sums : Option Breach = when filled_differs breach.FilledWrong or_else when cost_differs breach.CostWrong in
    let a = or-none (when (is_other_version seen plan) breach.OtherVersion)
    (when (is_other_order seen order plan) breach.OtherOrder or_else leg_breach seen order legs or_else sum_breach seen order legs or_else
    sums) none in
    let b = or-none (when (is_other_order seen order plan) breach.OtherOrder)
    (leg_breach seen order legs or_else sum_breach seen order legs or_else sums) a.1 in
    let c = or-none (leg_breach seen order legs) (sum_breach seen order legs or_else sums) b.1 in
    let d = or-none (sum_breach seen order legs) sums c.1 in
    let e = or-none (when filled_differs breach.FilledWrong) (when cost_differs breach.CostWrong) d.1 in
    let t1 = or-none (when (some_lacks_quotation seen order legs) breach.NoSuchQuotation)
    (when (some_has_other_price seen order legs) breach.PriceDiffers or_else when (some_has_no_shares legs) breach.ZeroLeg or_else when
    (some_is_over_size seen order legs) breach.OverSize or_else when (has_repeat legs) breach.Repeated or_else when
    (some_is_beyond_limit order legs) breach.BeyondLimit) c.0 in
    let t2 = or-none (when (some_has_other_price seen order legs) breach.PriceDiffers)
    (when (some_has_no_shares legs) breach.ZeroLeg or_else when (some_is_over_size seen order legs) breach.OverSize or_else when
    (has_repeat legs) breach.Repeated or_else when (some_is_beyond_limit order legs) breach.BeyondLimit) t1.1 in
    let t3 = or-none (when (some_has_no_shares legs) breach.ZeroLeg)
    (when (some_is_over_size seen order legs) breach.OverSize or_else when (has_repeat legs) breach.Repeated or_else when
    (some_is_beyond_limit order legs) breach.BeyondLimit) t2.1 in
    let t4 = or-none (when (some_is_over_size seen order legs) breach.OverSize)
    (when (has_repeat legs) breach.Repeated or_else when (some_is_beyond_limit order legs) breach.BeyondLimit) t3.1 in
    let t5 = or-none (when (has_repeat legs) breach.Repeated) (when (some_is_beyond_limit order legs) breach.BeyondLimit) t4.1 in
    let u = or-none (when (is_over_asked order legs) breach.OverAsked)
    (option_map (λ row. breach.TradedThrough row.part) (first_traded_through seen order legs)) d.0 in
    record {
      version = when-none (is_other_version seen plan) breach.OtherVersion a.0;
      same = when-none (is_other_order seen order plan) breach.OtherOrder b.0;
      quotation = when-none (some_lacks_quotation seen order legs) breach.NoSuchQuotation t1.0;
      price = when-none (some_has_other_price seen order legs) breach.PriceDiffers t2.0;
      shares = when-none (some_has_no_shares legs) breach.ZeroLeg t3.0;
      size = when-none (some_is_over_size seen order legs) breach.OverSize t4.0;
      once = when-none (has_repeat legs) breach.Repeated t5.0;
      limit = when-none (some_is_beyond_limit order legs) breach.BeyondLimit t5.1;
      asked = when-none (is_over_asked order legs) breach.OverAsked u.0;
      through = map-none (λ row. breach.TradedThrough row.part) (first_traded_through seen order legs) u.1;
      filled = when-none filled_differs breach.FilledWrong e.0;
      cost = when-none cost_differs breach.CostWrong e.1;
    }

pub none-passes : (seen : Seen) (order : Terms) (fees : Charges) (plan : Plan) → Passes seen order fees plan
    → breach_of seen order fees plan ≡ None
none-passes seen order fees plan passes =
    rw (
      passes.version,
      passes.same,
      passes.quotation,
      passes.price,
      passes.shares,
      passes.size,
      passes.once,
      passes.limit,
      passes.asked,
      passes.through,
      passes.filled,
      passes.cost,
    ) refl
