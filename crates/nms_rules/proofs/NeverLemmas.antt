-- A plan without a breach leaves no quotation of its side that it trades through.
use Rattle.std.proofs.Common.{ℕ, ◌≡◌, ◌≤◌, ◌&&◌, Bool, true, false, List, [], ◌∷◌, ◌++◌, ◌⊎◌, inl, inr, refl, sym, subst, ◌∙◌, nat_lt}
use Rattle.std.specs.List.{filter}
use Rattle.std.specs.Prelude.{not}
use Rattle.std.proofs.lemmas.Bool.{and_from, and_parts, cases_Bool, false≢true, ltb-false, not_from_false}
use Rattle.nms_quote.specs.declared.order.OrderSide.{OrderSide}
use Rattle.nms_quote.specs.declared.plan.Leg.{Leg}
use Rattle.nms_quote.specs.declared.side_quote.Side.{Side}
use Rattle.nms_quote.specs.declared.side_quote.Side.TheVariants.{Bid, Offer}
use Rattle.nms_board.specs.Ranking.{better_price}
use Rattle.nms_board.specs.View.{Seen, rows_on}
use Rattle.nms_board.specs.declared.row.Row.{Row}
use Rattle.nms_rules.specs.Breach.{has_leg_beyond, is_beyond_limit, is_traded_through, some_is_beyond_limit}
use Rattle.nms_rules.specs.Faultless.{given_by}
use Rattle.nms_rules.specs.Laws.{KeepsLimit, LawfulPlansNeverTradeThrough, SweepsThroughOnItsSide}
use Rattle.nms_rules.specs.Through.{is_through, through_on, traded_through_at}
use Rattle.nms_rules.specs.Usable.{contra, is_better, is_binding, is_named}
use Rattle.nms_rules.proofs.MemberLemmas.{All-In, In, filter-In, find-none, list_any-none, map-In}
use Rattle.nms_rules.proofs.NoneLemmas.{passes-none}

In-either : {X : Type 0} (xs ys : List X) (x : X) → In x (xs ++ ys) → In x xs ⊎ In x ys
In-either [] ys x within = inr within
In-either (y ∷ xs) ys x (inl e) = inl (inl e)
In-either (y ∷ xs) ys x (inr within) = elim (In-either xs ys x within) [
  | inl front ↦ inl (inr front)
  | inr behind ↦ inr behind
]

-- what is traded through is a row of its side, protected and at a better price
abbrev IsThrough : Seen → ℕ → Side × Row → Type 0
IsThrough seen price found = In found.1 (rows_on found.0 seen) × (found.1.protected ≡ true)
    × (better_price found.0 found.1.price price ≡ true)

through_side : (seen : Seen) (side : Side) (rows : List Row) (price : ℕ) → rows ≡ rows_on side seen → (found : Side × Row)
    → In found (through_on side rows price) → IsThrough seen price found
through_side seen side rows price is found within =
    let made = map-In (λ (row : Row). (side, row)) (filter (is_through side price) rows) found within in
    let kept = filter-In (is_through side price) rows made.0 made.1 in
    let both = and_parts made.0.protected (better_price side made.0.price price) kept.1 in
    subst (IsThrough seen price) (sym made.2) (subst (λ rows. In made.0 rows) is kept.0, both.0, both.1)

through_is : (seen : Seen) (price : ℕ) (found : Side × Row) → In found (traded_through_at seen price) → IsThrough seen price found
through_is seen price found within = elim (In-either (through_on Bid seen.bids price) (through_on Offer seen.offers price) found within) [
  | inl bid ↦ through_side seen Bid seen.bids price refl found bid
  | inr offer ↦ through_side seen Offer seen.offers price refl found offer
]

-- some leg is beyond a price that is better than that leg's
beyond : (side : OrderSide) (legs : List Leg) (price : ℕ) (leg : Leg) → In leg legs → is_better side price leg.price ≡ true
    → has_leg_beyond side price legs ≡ true
beyond side legs price leg within better = elim (cases_Bool (has_leg_beyond side price legs)) [
  | inl yes_it_is ↦ yes_it_is
  | inr none ↦ absurd (false≢true (sym (list_any-none (λ (leg : Leg). is_better side price leg.price) legs none leg within) ∙ better))
]

swept : (binding below behind : Bool) → binding ≡ true → behind ≡ true → (binding && below && behind) ≡ false → below ≡ false
swept true false true p b e = refl
swept true true true p b e = absurd (false≢true (sym e))
swept true below false p b e = absurd (false≢true b)
swept false below behind p b e = absurd (false≢true p)

pub never_through : LawfulPlansNeverTradeThrough
unfolding is_traded_through some_is_beyond_limit
never_through seen order fees plan none =
    let passes = passes-none seen order fees plan none in
    let legs : List Leg = plan.legs.items in
    All-In (λ leg. KeepsLimit order leg.price × SweepsThroughOnItsSide seen order legs leg.price) legs (λ leg within. (
      list_any-none (is_beyond_limit order) legs passes.limit leg within,
      All-In (λ found. found.0 ≡ contra order.side → is_named order found.1 ≡ false → found.1.size ≤ given_by legs found.1.part)
          (traded_through_at seen leg.price) (λ found there same unnamed.
          let through = through_is seen leg.price found there in
          let row : Row = found.1 in
          let here = subst (λ side. In row (rows_on side seen)) same through.0 in
          let better = subst (λ side. better_price side row.price leg.price ≡ true) same through.2 in
          let kept = find-none (is_traded_through order legs) (rows_on (contra order.side) seen) passes.through row here in
          let binding = and_from (not (is_named order row)) row.protected (not_from_false (is_named order row) unnamed) through.1 in
          ltb-false (given_by legs row.part) row.size
          (swept (is_binding order row) (nat_lt (given_by legs row.part) row.size) (has_leg_beyond order.side row.price legs) binding
          (beyond order.side legs row.price leg within better) kept)),
    ))
