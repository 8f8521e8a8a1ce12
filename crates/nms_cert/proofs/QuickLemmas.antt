-- A plan that the quick tests pass has no breach.
use Rattle.std.proofs.Common.{◌≡◌, ◌<◌, ◌==◌, ◌&&◌, ◌||◌, Bool, true, false, List, [], ◌∷◌, Option, Some, None}
use Rattle.std.proofs.Common.{ℕ, inl, inr, refl, ap, sym, ◌∙◌, subst, arith}
use Rattle.std.specs.Prelude.{All, not, nat_le, nat_lt}
use Rattle.std.specs.List.{filter, list_all}
use Rattle.std.specs.Ordering.{int_eq}
use Rattle.std.proofs.lemmas.Bool.{and_from, and_parts, both_ways, cases_Bool, eqb-true, eq-eqb, false≢true, leb-true, le-ltb, not_from_true}
use Rattle.std.proofs.lemmas.Bool.{lt-ltb, ltb-false, ltb-true, ne_eqb, or_from}
use Rattle.nms_quote.specs.Terms.{Terms}
use Rattle.nms_quote.specs.declared.order.OrderSide.{OrderSide}
use Rattle.nms_quote.specs.declared.order.OrderSide.TheVariants.{Buy, Sell}
use Rattle.nms_quote.specs.declared.plan.Leg.{Leg}
use Rattle.nms_quote.specs.declared.plan.Plan.{Plan}
use Rattle.nms_board.specs.View.{Seen}
use Rattle.nms_board.specs.declared.row.Row.{Row}
use Rattle.nms_fee_book.specs.Fees.{Charges}
use Rattle.nms_rules.specs.Breach.{breach_of, first_traded_through, has_leg_beyond, has_no_shares, has_other_price, has_repeat}
use Rattle.nms_rules.specs.Breach.{is_beyond_limit, is_other_order, is_other_version, is_over_asked, is_over_size, is_same_flag, is_same_order}
use Rattle.nms_rules.specs.Breach.{is_same_side, is_traded_through, lacks_quotation, row_for, some_has_no_shares, some_has_other_price}
use Rattle.nms_rules.specs.Breach.{some_is_beyond_limit, some_is_over_size, some_lacks_quotation}
use Rattle.nms_rules.specs.Faultless.{cost_of, given_by, sum_of}
use Rattle.nms_rules.specs.Usable.{Usable, contra_rows, is_allowed, is_better, is_binding, is_named, is_usable, usable, usable_row}
use Rattle.nms_cert.specs.Quick.{are_suited, is_passed_over, is_short, is_suited, is_summed}
use Rattle.nms_rules.proofs.Offered.{In, In-All, In-filter, In-map, find-nothing, list_any-false, list_any-some, within-limit}

-- ---- a leg

-- what holds for a leg that is suited, by the tests of a breach
record Suits (order : Terms) (leg : Leg) (found : Option Row) : Type 0 where
  pub quotation : lacks_quotation order found ≡ false
  pub price : has_other_price leg found ≡ false
  pub shares : has_no_shares leg ≡ false
  pub size : is_over_size leg found ≡ false
  pub limit : is_beyond_limit order leg ≡ false

suits : (order : Terms) (leg : Leg) (found : Option Row) → is_suited order leg found ≡ true → Suits order leg found
suits order leg None e = absurd (false≢true e)
suits order leg (Some row) e =
    let a = and_parts (is_usable order row && leg.price == row.price && nat_lt 0 leg.shares) (nat_le leg.shares row.size) e in
    let b = and_parts (is_usable order row && leg.price == row.price) (nat_lt 0 leg.shares) a.0 in
    let c = and_parts (is_usable order row) (leg.price == row.price) b.0 in
    let d = and_parts (is_allowed order row) (not (is_better order.side order.limit row.price)) c.0 in
    let some : 0 < leg.shares = ltb-true 0 leg.shares b.1 in
    let same : leg.price ≡ row.price = eqb-true leg.price row.price c.1 in
    record {
      quotation = not_from_true (is_allowed order row) d.0;
      price = not_from_true (leg.price == row.price) c.1;
      shares = ne_eqb leg.shares 0 (λ none. omega arith);
      size = le-ltb row.size leg.shares (leb-true leg.shares row.size a.1);
      limit = subst (λ p. is_better order.side order.limit p ≡ false) (sym same)
          (not-true (is_better order.side order.limit row.price) d.1);
    }
  where
    not-true : (b : Bool) → not b ≡ true → b ≡ false
    not-true true e = sym e
    not-true false e = refl

-- each of them
all_in : {X : Type 0} (p : X → Bool) (xs : List X) → list_all p xs ≡ true → (x : X) → In x xs → p x ≡ true
all_in p [] all x within = absurd within
all_in p (y ∷ ys) all x (inl same) = ap p same ∙ (and_parts (p y) (list_all p ys) all).0
all_in p (y ∷ ys) all x (inr within) = all_in p ys (and_parts (p y) (list_all p ys) all).1 x within

each_suits : (seen : Seen) (order : Terms) (legs : List Leg) → are_suited seen order legs ≡ true → (leg : Leg) → In leg legs
    → Suits order leg (row_for seen order.side leg)
unfolding are_suited
each_suits seen order legs all leg within =
    suits order leg (row_for seen order.side leg) (all_in (λ one. is_suited order one (row_for seen order.side one)) legs all leg within)

-- ---- the rows

-- a price that is better than one that is no worse than the worst is better than the worst
better_than_worst : (side : OrderSide) (price other worst : ℕ) → is_better side worst other ≡ false → is_better side price other ≡ true
    → is_better side price worst ≡ true
better_than_worst Buy price other worst within better =
    lt-ltb price worst (omega (arith, ltb-false worst other within, ltb-true price other better))
better_than_worst Sell price other worst within better =
    lt-ltb worst price (omega (arith, ltb-false other worst within, ltb-true other price better))

-- what is no worse than a price is no worse than a worse one
pub worse_yet : (side : OrderSide) (worst price next : ℕ) → is_better side worst price ≡ false → is_better side worst next ≡ true
    → is_better side next price ≡ false
worse_yet Buy worst price next within worse =
    le-ltb next price (omega (arith, ltb-false worst price within, ltb-true worst next worse))
worse_yet Sell worst price next within worse =
    le-ltb price next (omega (arith, ltb-false price worst within, ltb-true next worst worse))

pub not_itself : (side : OrderSide) (price : ℕ) → is_better side price price ≡ false
not_itself Buy price = le-ltb price price (omega arith)
not_itself Sell price = le-ltb price price (omega arith)

-- a row that is not short of the worst price of legs is not passed over by them
pub not_short : (side : OrderSide) (worst : ℕ) (legs : List Leg) (row : Usable) → All (λ leg. is_better side worst leg.price ≡ false) legs
    → is_short side worst legs row ≡ false → is_passed_over side legs row ≡ false
not_short side worst legs row none short =
    elim (cases_Bool (is_passed_over side legs row)) [
      | inl e ↦
          let a = and_parts (row.protected && has_leg_beyond side row.price legs) (nat_lt (given_by legs row.part) row.size) e in
          let b = and_parts row.protected (has_leg_beyond side row.price legs) a.0 in
          let beyond = list_any-some (λ (leg : Leg). is_better side row.price leg.price) legs b.1 in
          let better = better_than_worst side row.price beyond.0.price worst
          (In-All (λ (leg : Leg). is_better side worst leg.price ≡ false) legs none beyond.0 beyond.1) beyond.2 in
          absurd (both_ways (is_short side worst legs row) short
          (and_from (row.protected && is_better side row.price worst) (nat_lt (given_by legs row.part) row.size)
          (and_from row.protected (is_better side row.price worst) b.0 better) a.1))
      | inr e ↦ e
    ]

-- no legs pass over any row
pub none_beyond : (side : OrderSide) (row : Usable) → is_passed_over side [] row ≡ false
none_beyond side row =
    elim (cases_Bool (is_passed_over side [] row)) [
      | inl e ↦
          let a = and_parts (row.protected && has_leg_beyond side row.price []) (nat_lt (given_by [] row.part) row.size) e in
          absurd (false≢true (and_parts row.protected (has_leg_beyond side row.price []) a.0).1)
      | inr e ↦ e
    ]

-- a row that legs within the limit trade through is a usable one that they pass over
through_passed : (seen : Seen) (order : Terms) (fees : Charges) (legs : List Leg) → are_suited seen order legs ≡ true → (row : Row)
    → In row (contra_rows order.side seen) → is_traded_through order legs row ≡ true
    → (one : Usable) × In one (usable seen order fees) × (is_passed_over order.side legs one ≡ true)
unfolding is_traded_through
through_passed seen order fees legs suited row within through =
    let a = and_parts (is_binding order row && nat_lt (given_by legs row.part) row.size) (has_leg_beyond order.side row.price legs) through
    in
    let b = and_parts (is_binding order row) (nat_lt (given_by legs row.part) row.size) a.0 in
    let c = and_parts (not (is_named order row)) row.protected b.0 in
    let beyond = list_any-some (λ (leg : Leg). is_better order.side row.price leg.price) legs a.1 in
    let limit : is_better order.side order.limit row.price ≡ false =
    within-limit order.side order.limit row.price beyond.0.price (each_suits seen order legs suited beyond.0 beyond.1).limit beyond.2 in
    let usable_one : is_usable order row ≡ true =
    and_from (is_allowed order row) (not (is_better order.side order.limit row.price))
    (and_from (not (is_named order row)) (row.protected || order.manual) c.0 (or-left row.protected order.manual c.1))
    (not-from-false (is_better order.side order.limit row.price) limit) in (
      usable_row order fees row,
      In-map (usable_row order fees) (filter (is_usable order) (contra_rows order.side seen)) row
          (In-filter (is_usable order) (contra_rows order.side seen) row within usable_one),
      and_from (row.protected && has_leg_beyond order.side row.price legs) (nat_lt (given_by legs row.part) row.size)
          (and_from row.protected (has_leg_beyond order.side row.price legs) c.1 a.1) b.1,
    )
  where
    or-left : (b other : Bool) → b ≡ true → (b || other) ≡ true
    or-left true other e = refl
    or-left false other e = absurd (false≢true e)

    not-from-false : (b : Bool) → b ≡ false → not b ≡ true
    not-from-false true e = sym e
    not-from-false false e = refl

none_through : (seen : Seen) (order : Terms) (fees : Charges) (legs : List Leg) → are_suited seen order legs ≡ true
    → All (λ row. is_passed_over order.side legs row ≡ false) (usable seen order fees) → first_traded_through seen order legs ≡ None
none_through seen order fees legs suited passed =
    find-nothing (is_traded_through order legs) (contra_rows order.side seen) (λ row within.
    elim (cases_Bool (is_traded_through order legs row)) [
      | inl e ↦
          let one = through_passed seen order fees legs suited row within e in
          absurd (both_ways (is_passed_over order.side legs one.0)
          (In-All (λ (row : Usable). is_passed_over order.side legs row ≡ false) (usable seen order fees) passed one.0 one.1) one.2)
      | inr e ↦ e
    ])

-- ---- the plan

-- what the tests find of it
pub record Keeps (seen : Seen) (order : Terms) (fees : Charges) (plan : Plan) : Type 0 where
  pub version : (plan.version == seen.version) ≡ true
  pub same : is_same_order plan.order order ≡ true
  pub symbol : order.sym ≡ seen.sym
  pub suited : are_suited seen order plan.legs.items ≡ true
  pub once : has_repeat plan.legs.items ≡ false
  pub passed : All (λ row. is_passed_over order.side plan.legs.items row ≡ false) (usable seen order fees)
  pub summed : is_summed order fees plan ≡ true

same_symbol : (one other : Terms) → is_same_order one other ≡ true → one.sym ≡ other.sym
same_symbol one other e =
    let a = and_parts (is_same_side one.side other.side && one.sym == other.sym && one.shares == other.shares && one.limit == other.limit
    && is_same_flag one.manual other.manual) (one.self_help == other.self_help) e in
    let b = and_parts (is_same_side one.side other.side && one.sym == other.sym && one.shares == other.shares && one.limit == other.limit)
    (is_same_flag one.manual other.manual) a.0 in
    let c = and_parts (is_same_side one.side other.side && one.sym == other.sym && one.shares == other.shares) (one.limit == other.limit)
    b.0 in
    let d = and_parts (is_same_side one.side other.side && one.sym == other.sym) (one.shares == other.shares) c.0 in
    eqb-true one.sym other.sym (and_parts (is_same_side one.side other.side) (one.sym == other.sym) d.0).1

pub none_of_keeps : (seen : Seen) (order : Terms) (fees : Charges) (plan : Plan) → Keeps seen order fees plan
    → breach_of seen order fees plan ≡ None
unfolding some_lacks_quotation some_has_other_price some_has_no_shares some_is_over_size some_is_beyond_limit
none_of_keeps seen order fees plan keeps =
    let legs : List Leg = plan.legs.items in
    let each = each_suits seen order legs keeps.suited in
    let a = and_parts (nat_le (sum_of legs) order.shares && plan.filled == sum_of legs)
    (int_eq plan.cost (cost_of fees order.side legs)) keeps.summed in
    let b = and_parts (nat_le (sum_of legs) order.shares) (plan.filled == sum_of legs) a.0 in
    let version : is_other_version seen plan ≡ false = not_from_true (plan.version == seen.version) keeps.version in
    let same : is_other_order seen order plan ≡ false =
    or_from (not (is_same_order plan.order order)) (not (plan.order.sym == seen.sym))
    (not_from_true (is_same_order plan.order order) keeps.same)
    (not_from_true (plan.order.sym == seen.sym) (eq-eqb plan.order.sym seen.sym (same_symbol plan.order order keeps.same ∙ keeps.symbol)))
    in
    let quotation : some_lacks_quotation seen order legs ≡ false =
    list_any-false (λ leg. lacks_quotation order (row_for seen order.side leg)) legs (λ leg within. (each leg within).quotation) in
    let price : some_has_other_price seen order legs ≡ false =
    list_any-false (λ leg. has_other_price leg (row_for seen order.side leg)) legs (λ leg within. (each leg within).price) in
    let shares : some_has_no_shares legs ≡ false = list_any-false has_no_shares legs (λ leg within. (each leg within).shares) in
    let size : some_is_over_size seen order legs ≡ false =
    list_any-false (λ leg. is_over_size leg (row_for seen order.side leg)) legs (λ leg within. (each leg within).size) in
    let limit : some_is_beyond_limit order legs ≡ false =
    list_any-false (is_beyond_limit order) legs (λ leg within. (each leg within).limit) in
    let asked : is_over_asked order legs ≡ false = le-ltb order.shares (sum_of legs) (leb-true (sum_of legs) order.shares b.0) in
    let through = none_through seen order fees legs keeps.suited keeps.passed in
    let filled = not_from_true (plan.filled == sum_of legs) b.1 in
    let cost = not_from_true (int_eq plan.cost (cost_of fees order.side legs)) a.1 in
    rw (version, same, quotation, price, shares, size, keeps.once, limit, asked, through, filled, cost) refl
