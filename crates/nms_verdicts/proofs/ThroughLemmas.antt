-- The quotations that legs trade through: all are at better prices than the worst leg's, and the first of them is among them.
use Rattle.std.proofs.Common.{ℕ, ◌≡◌, ◌<◌, Bool, true, false, List, [], ◌∷◌, length, map, Some, All, Any}
use Rattle.std.proofs.Common.{◌⊎◌, inl, inr, ap, sym, ◌∙◌, arith}
use Rattle.std.specs.List.{filter}
use Rattle.std.proofs.lemmas.Bool.{and_parts, both_ways, cases_Bool, lt-ltb, ltb-false, ltb-true}
use Rattle.std.proofs.lemmas.List.Folds.{Any-from_list_any}
use Rattle.nms_quote.specs.Terms.{Terms}
use Rattle.nms_quote.specs.declared.order.OrderSide.{OrderSide}
use Rattle.nms_quote.specs.declared.order.OrderSide.TheVariants.{Buy, Sell}
use Rattle.nms_quote.specs.declared.plan.Leg.{Leg}
use Rattle.nms_board.specs.View.{Seen}
use Rattle.nms_board.specs.declared.row.Row.{Row}
use Rattle.nms_rules.specs.Breach.{first_traded_through, is_traded_through}
use Rattle.nms_rules.specs.Usable.{contra_rows, is_better}
use Rattle.nms_rules.proofs.Offered.{All-In, Any-In, In, In-All, In-Any, filter-In, map-In}
use Rattle.nms_verdicts.proofs.FindLemmas.{find-is}
use Rattle.nms_verdicts.specs.BreachPlaces.{IsWorst, passed_by, passed_over}
use Rattle.nms_verdicts.specs.declared.plan_places.leg_place.LegPlace.{LegPlace}
use Rattle.nms_verdicts.specs.declared.plan_places.passed_over.PassedOver.{PassedOver}

-- ---- members of what a search finds, of a filter and of a map

In-filter-step : {X : Type 0} (p : X → Bool) (y : X) (ys : List X) (x : X) → (In x ys → In x (filter p ys)) → p x ≡ true
    → (p y ≡ true) ⊎ (p y ≡ false) → In x (y ∷ ys) → In x (filter p (y ∷ ys))
In-filter-step p y ys x later holds (inl e) (inl same) = rw e (inl same)
In-filter-step p y ys x later holds (inl e) (inr within) = rw e (inr (later within))
In-filter-step p y ys x later holds (inr e) (inl same) = absurd (both_ways (p y) e (ap p (sym same) ∙ holds))
In-filter-step p y ys x later holds (inr e) (inr within) = rw e (later within)

In-filter : {X : Type 0} (p : X → Bool) (xs : List X) (x : X) → In x xs → p x ≡ true → In x (filter p xs)
In-filter p [] x within holds = absurd within
In-filter p (y ∷ ys) x within holds = In-filter-step p y ys x (λ later. In-filter p ys x later holds) holds (cases_Bool (p y)) within

In-map : {X Y : Type 0} (f : X → Y) (xs : List X) (x : X) → In x xs → In (f x) (map f xs)
In-map f [] x within = absurd within
In-map f (y ∷ ys) x (inl same) = inl (ap f same)
In-map f (y ∷ ys) x (inr within) = inr (In-map f ys x within)

-- ---- prices

-- what is better than a leg's price is better than the worst leg's
past-worst : (side : OrderSide) (price worst leg : ℕ) → is_better side price leg ≡ true → is_better side worst leg ≡ false
    → is_better side price worst ≡ true
past-worst Buy price worst leg better no_worse =
    lt-ltb price worst (omega (arith, ltb-true price leg better, ltb-false worst leg no_worse))
past-worst Sell price worst leg better no_worse =
    lt-ltb worst price (omega (arith, ltb-true leg price better, ltb-false leg worst no_worse))

-- a quotation that is traded through is better than some leg's price
some-beyond : (order : Terms) (legs : List Leg) (row : Row) → is_traded_through order legs row ≡ true
    → Any (λ leg. is_better order.side row.price leg.price ≡ true) legs
unfolding is_traded_through
some-beyond order legs row through =
    Any-from_list_any (λ (leg : Leg). is_better order.side row.price leg.price) legs (and_parts _ _ through).1

better-than-worst : (seen : Seen) (order : Terms) (legs : List Leg) (at : LegPlace) (row : Row) → IsWorst seen order.side legs at
    → is_traded_through order legs row ≡ true → is_better order.side row.price at.leg.price ≡ true
better-than-worst seen order legs at row worst through =
    let beyond = In-Any _ legs (some-beyond order legs row through) in
    past-worst order.side row.price at.leg.price beyond.0.price beyond.2
    (In-All (λ (leg : Leg). is_better order.side at.leg.price leg.price ≡ false) legs worst.worst beyond.0 beyond.1)

-- ---- all of them

pub all-better : (seen : Seen) (order : Terms) (legs : List Leg) (at : LegPlace) → IsWorst seen order.side legs at
    → All (λ it. is_better order.side it.row.price at.leg.price ≡ true) (passed_over seen order legs)
all-better seen order legs at worst =
    All-In (λ (it : PassedOver). is_better order.side it.row.price at.leg.price ≡ true) (passed_over seen order legs) (λ it within.
    let made = map-In (passed_by legs) (filter (is_traded_through order legs) (contra_rows order.side seen)) it within in
    let kept = filter-In (is_traded_through order legs) (contra_rows order.side seen) made.0 made.1 in
    ap (λ (it : PassedOver). is_better order.side it.row.price at.leg.price) made.2
    ∙ better-than-worst seen order legs at made.0 worst kept.1)

pub named-among : (seen : Seen) (order : Terms) (legs : List Leg) (row : Row) (part : ℕ) → first_traded_through seen order legs ≡ Some row
    → part ≡ row.part → Any (λ it. it.row.part ≡ part) (passed_over seen order legs)
named-among seen order legs row part first same =
    let found = find-is (is_traded_through order legs) (contra_rows order.side seen) row first in
    Any-In (λ (it : PassedOver). it.row.part ≡ part) (passed_over seen order legs) (passed_by legs row)
    (In-map (passed_by legs) (filter (is_traded_through order legs) (contra_rows order.side seen)) row
    (In-filter (is_traded_through order legs) (contra_rows order.side seen) row found.0 found.1)) (sym same)

-- if something is traded through, there is a leg
pub some-leg : (seen : Seen) (order : Terms) (legs : List Leg) (row : Row) → first_traded_through seen order legs ≡ Some row
    → 0 < length legs
some-leg seen order legs row first =
    let found = find-is (is_traded_through order legs) (contra_rows order.side seen) row first in
    let beyond = some-beyond order legs row found.1 in omega (arith, beyond.2)
