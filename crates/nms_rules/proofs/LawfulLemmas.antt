-- A plan without a breach is a lawful one, and the converse.
use Rattle.std.proofs.Common.{ℕ, ◌≡◌, ◌<◌, ◌≤◌, ◌==◌, Bool, true, false, ◌&&◌, ◌||◌, List, Any, Option, Some, None, ◌⊎◌, inl, inr, refl, ap}
use Rattle.std.proofs.Common.{sym, ◌∙◌, subst, arith, nat_lt}
use Rattle.std.specs.Prelude.{ℤ, ◌<ℤ◌, not}
use Rattle.std.specs.List.{filter}
use Rattle.std.specs.Ordering.{int_eq}
use Rattle.std.proofs.lemmas.Bool.{cases_Bool, cases_lt, both_ways, false≢true, and_parts, and_from, or_parts, or_from, or_left, not-false}
use Rattle.std.proofs.lemmas.Bool.{not_from_false, not_from_true, eqb-true, eqb-false, eq-eqb, ne_eqb, ltb-true, ltb-false, lt-ltb, le-ltb}
use Rattle.std.proofs.lemmas.Bool.Decides.{Decides-int_eq}
use Rattle.nms_quote.specs.Terms.{Terms}
use Rattle.nms_quote.specs.declared.order.OrderSide.{OrderSide}
use Rattle.nms_quote.specs.declared.order.OrderSide.TheVariants.{Buy, Sell}
use Rattle.nms_quote.specs.declared.plan.Leg.{Leg}
use Rattle.nms_quote.specs.declared.plan.Plan.{Plan}
use Rattle.nms_board.specs.View.{Seen, AreRows}
use Rattle.nms_board.specs.declared.row.Row.{Row}
use Rattle.nms_fee_book.specs.Fees.{Charges}
use Rattle.nms_rules.specs.Assignment.{IsLawful, IsOnUsable, SweepsBetter}
use Rattle.nms_rules.specs.Breach.{breach_of, is_same_order, has_other_price, has_leg_beyond, is_over_size, is_traded_through}
use Rattle.nms_rules.specs.Breach.{lacks_quotation, row_for, some_has_no_shares, some_has_other_price, some_is_beyond_limit}
use Rattle.nms_rules.specs.Breach.{some_is_over_size, some_lacks_quotation, has_no_shares, is_beyond_limit}
use Rattle.nms_rules.specs.Faultless.{IsFaultless, cost_of, given_by, sum_of}
use Rattle.nms_rules.specs.Usable.{Usable, contra_rows, is_allowed, is_better, is_binding, is_named, is_usable, usable, usable_row}
use Rattle.nms_rules.proofs.ApartLemmas.{Apart, Apart-same, Apart-filter, Apart-map, Apart-rising, IsDistinct-Apart, Apart-IsDistinct}
use Rattle.nms_rules.proofs.GivenLemmas.{leg_part, row_part, Apart-has_repeat, has_repeat-Apart, given-leg, given-by, filled-given}
use Rattle.nms_rules.proofs.MemberLemmas.{In, In-All, All-In, Any-In, In-Any, list_any-none, list_any-false, list_any-some, find-is}
use Rattle.nms_rules.proofs.MemberLemmas.{find-none, find-nothing, In-filter, filter-In, In-map, map-In}
use Rattle.nms_rules.proofs.NoneLemmas.{Passes, passes-none, none-passes}
use Rattle.nms_rules.proofs.OrderLemmas.{better-from-rank, order-from, order-to, rank-from-better, within-limit}

abbrev place : Row → ℕ
place row = row.part

-- the quotation that a leg may go to
pub record Serves (seen : Seen) (asked : Terms) (leg : Leg) (row : Row) : Type 0 where
  pub found : row_for seen asked.side leg ≡ Some row
  pub allowed : is_allowed asked row ≡ true
  pub price : leg.price ≡ row.price
  pub size : leg.shares ≤ row.size
  pub limit : is_better asked.side asked.limit row.price ≡ false

contra_rows_are_rows : (side : OrderSide) (seen : Seen) → AreRows seen.bids → AreRows seen.offers → AreRows (contra_rows side seen)
contra_rows_are_rows Buy seen bids offers = offers
contra_rows_are_rows Sell seen bids offers = bids

rows_apart : (side : OrderSide) (seen : Seen) → AreRows seen.bids → AreRows seen.offers → Apart place (contra_rows side seen)
rows_apart side seen bids offers = Apart-rising place (contra_rows side seen) (contra_rows_are_rows side seen bids offers).rising

usable_apart : (seen : Seen) (asked : Terms) (fees : Charges) → Apart place (contra_rows asked.side seen)
    → Apart row_part (usable seen asked fees)
usable_apart seen asked fees apart =
    Apart-map place row_part (usable_row asked fees) (λ row. refl) (filter (is_usable asked) (contra_rows asked.side seen))
    (Apart-filter place (is_usable asked) (contra_rows asked.side seen) apart)

-- the row that a usable one is of
record IsOf (seen : Seen) (asked : Terms) (fees : Charges) (row : Usable) (quoted : Row) : Type 0 where
  pub within : In quoted (contra_rows asked.side seen)
  pub is : row ≡ usable_row asked fees quoted
  pub allowed : is_allowed asked quoted ≡ true
  pub limit : is_better asked.side asked.limit quoted.price ≡ false

not-true-is-false : (b : Bool) → not b ≡ true → b ≡ false
not-true-is-false true e = sym e
not-true-is-false false e = refl

usable_is : (seen : Seen) (asked : Terms) (fees : Charges) (row : Usable) → In row (usable seen asked fees)
    → (quoted : Row) × IsOf seen asked fees row quoted
usable_is seen asked fees row within =
    let from = map-In (usable_row asked fees) (filter (is_usable asked) (contra_rows asked.side seen)) row within in
    let kept = filter-In (is_usable asked) (contra_rows asked.side seen) from.0 from.1 in
    let tests = and_parts (is_allowed asked from.0) (not (is_better asked.side asked.limit from.0.price)) kept.1 in (
      from.0,
      record {
        within = kept.0;
        is = from.2;
        allowed = tests.0;
        limit = not-true-is-false (is_better asked.side asked.limit from.0.price) tests.1;
      },
    )

is_usable-from : (seen : Seen) (asked : Terms) (fees : Charges) (quoted : Row) → In quoted (contra_rows asked.side seen)
    → is_allowed asked quoted ≡ true → is_better asked.side asked.limit quoted.price ≡ false
    → In (usable_row asked fees quoted) (usable seen asked fees)
is_usable-from seen asked fees quoted within allowed limit =
    In-map (usable_row asked fees) (filter (is_usable asked) (contra_rows asked.side seen)) quoted
    (In-filter (is_usable asked) (contra_rows asked.side seen) quoted within
    (and_from (is_allowed asked quoted) (not (is_better asked.side asked.limit quoted.price)) allowed
    (not_from_false (is_better asked.side asked.limit quoted.price) limit)))

-- a leg's quotation is among the rows, by its participant
pub served : (seen : Seen) (asked : Terms) (leg : Leg) (row : Row) → Serves seen asked leg row
    → In row (contra_rows asked.side seen) × (row.part ≡ leg.part)
served seen asked leg row serves =
    let is = find-is (λ one. one.part == leg.part) (contra_rows asked.side seen) row serves.found in
    (is.0, eqb-true row.part leg.part is.1)

-- ---- from tests to quotations

serves-from : (seen : Seen) (asked : Terms) (leg : Leg) (found : Option Row) → row_for seen asked.side leg ≡ found
    → lacks_quotation asked found ≡ false → has_other_price leg found ≡ false → is_over_size leg found ≡ false
    → is_better asked.side asked.limit leg.price ≡ false → (row : Row) × Serves seen asked leg row
serves-from seen asked leg None is lacks price size limit = absurd (false≢true (sym lacks))
serves-from seen asked leg (Some row) is lacks price size limit =
    let same : leg.price ≡ row.price = eqb-true leg.price row.price (not-false (leg.price == row.price) price) in (
      row,
      record {
        found = is;
        allowed = not-false (is_allowed asked row) lacks;
        price = same;
        size = ltb-false row.size leg.shares size;
        limit = subst (λ p. is_better asked.side asked.limit p ≡ false) same limit;
      },
    )

pub passes-serves : (seen : Seen) (asked : Terms) (fees : Charges) (plan : Plan) → Passes seen asked fees plan → (leg : Leg)
    → In leg plan.legs.items → (row : Row) × Serves seen asked leg row
unfolding some_lacks_quotation some_has_other_price some_is_over_size some_is_beyond_limit
passes-serves seen asked fees plan passes leg within =
    serves-from seen asked leg (row_for seen asked.side leg) refl
    (list_any-none (λ one. lacks_quotation asked (row_for seen asked.side one)) plan.legs.items passes.quotation leg within)
    (list_any-none (λ one. has_other_price one (row_for seen asked.side one)) plan.legs.items passes.price leg within)
    (list_any-none (λ one. is_over_size one (row_for seen asked.side one)) plan.legs.items passes.size leg within)
    (list_any-none (is_beyond_limit asked) plan.legs.items passes.limit leg within)

passes-shares : (seen : Seen) (asked : Terms) (fees : Charges) (plan : Plan) → Passes seen asked fees plan → (leg : Leg)
    → In leg plan.legs.items → 1 ≤ leg.shares
unfolding some_has_no_shares
passes-shares seen asked fees plan passes leg within =
    let some = eqb-false leg.shares 0 (list_any-none has_no_shares plan.legs.items passes.shares leg within) in
    omega (arith, some)

-- ---- legs that are served, each by its own quotation

-- what both sides of the theorem come to
record Legs (seen : Seen) (asked : Terms) (legs : List Leg) : Type 0 where
  pub rows : Apart place (contra_rows asked.side seen)
  pub once : Apart leg_part legs
  pub shares : (leg : Leg) → In leg legs → 1 ≤ leg.shares
  pub served : (leg : Leg) → In leg legs → (row : Row) × Serves seen asked leg row

leg_row_usable : (seen : Seen) (asked : Terms) (fees : Charges) (leg : Leg) (row : Row) → Serves seen asked leg row
    → In (usable_row asked fees row) (usable seen asked fees)
leg_row_usable seen asked fees leg row serves =
    is_usable-from seen asked fees row (served seen asked leg row serves).0 serves.allowed serves.limit

-- shares that a row gets come by a leg to it, at its price and within its size
record ComesBy (legs : List Leg) (quoted : Row) (leg : Leg) : Type 0 where
  pub within : In leg legs
  pub price : leg.price ≡ quoted.price
  pub size : given_by legs quoted.part ≤ quoted.size

comes_by : (seen : Seen) (asked : Terms) (legs : List Leg) → Legs seen asked legs → (quoted : Row) → In quoted (contra_rows asked.side seen)
    → 0 < given_by legs quoted.part → (leg : Leg) × ComesBy legs quoted leg
comes_by seen asked legs is quoted within some =
    let leg = given-by legs quoted.part some in
    let row = is.served leg.0 leg.1 in
    let at = served seen asked leg.0 row.0 row.1 in
    let same : row.0 ≡ quoted = Apart-same place (contra_rows asked.side seen) is.rows row.0 quoted at.0 within (at.1 ∙ leg.2) in
    let given = given-leg legs is.once leg.0 leg.1 in (
      leg.0,
      record {
        within = leg.1;
        price = row.1.price ∙ ap (λ (one : Row). one.price) same;
        size = omega (arith, given, ap (given_by legs) leg.2, row.1.size, ap (λ (one : Row). one.size) same);
      },
    )

given_within : (seen : Seen) (asked : Terms) (legs : List Leg) → Legs seen asked legs → (quoted : Row)
    → In quoted (contra_rows asked.side seen) → (0 < given_by legs quoted.part) ⊎ (given_by legs quoted.part ≤ 0)
    → given_by legs quoted.part ≤ quoted.size
given_within seen asked legs is quoted within (inl some) = (comes_by seen asked legs is quoted within some).1.size
given_within seen asked legs is quoted within (inr none) = omega (arith, none)

usable_within : (seen : Seen) (asked : Terms) (fees : Charges) (legs : List Leg) → Legs seen asked legs → (row : Usable)
    → In row (usable seen asked fees) → given_by legs row.part ≤ row.size
usable_within seen asked fees legs is row within =
    let of' = usable_is seen asked fees row within in
    let within' = given_within seen asked legs is of'.0 of'.1.within (cases_lt 0 (given_by legs of'.0.part)) in
    subst (λ (one : Usable). given_by legs one.part ≤ one.size) (sym of'.1.is) within'

on_usable : (seen : Seen) (asked : Terms) (fees : Charges) (legs : List Leg) → Legs seen asked legs
    → IsOnUsable (usable seen asked fees) (given_by legs)
on_usable seen asked fees legs is part some =
    let leg = given-by legs part some in
    let row = is.served leg.0 leg.1 in
    Any-In (λ one. one.part ≡ part) (usable seen asked fees) (usable_row asked fees row.0)
    (leg_row_usable seen asked fees leg.0 row.0 row.1) ((served seen asked leg.0 row.0 row.1).1 ∙ leg.2)

-- ---- trading through

-- a protected quotation with a leg beyond it gets its full size, if the legs do not trade through it
swept-step : (asked : Terms) (legs : List Leg) (quoted : Row) (leg : Leg) → is_traded_through asked legs quoted ≡ false
    → is_binding asked quoted ≡ true
    → In leg legs → is_better asked.side quoted.price leg.price ≡ true
    → (given_by legs quoted.part < quoted.size) ⊎ (quoted.size ≤ given_by legs quoted.part)
    → (has_leg_beyond asked.side quoted.price legs ≡ true) ⊎ (has_leg_beyond asked.side quoted.price legs ≡ false)
    → quoted.size ≤ given_by legs quoted.part
unfolding is_traded_through
swept-step asked legs quoted leg clear binding within better (inr full) beyond = full
swept-step asked legs quoted leg clear binding within better (inl less) (inr none) =
    absurd (both_ways (is_better asked.side quoted.price leg.price)
    (list_any-none (λ one. is_better asked.side quoted.price one.price) legs none leg within) better)
swept-step asked legs quoted leg clear binding within better (inl less) (inl beyond) =
    absurd (both_ways (is_binding asked quoted && nat_lt (given_by legs quoted.part) quoted.size
    && has_leg_beyond asked.side quoted.price legs) clear
    (and_from (is_binding asked quoted && nat_lt (given_by legs quoted.part) quoted.size) (has_leg_beyond asked.side quoted.price legs)
    (and_from (is_binding asked quoted) (nat_lt (given_by legs quoted.part) quoted.size) binding
    (lt-ltb (given_by legs quoted.part) quoted.size less)) beyond))

-- what may be traded with and is protected has to be swept
allowed-binding : (asked : Terms) (quoted : Row) → is_allowed asked quoted ≡ true → quoted.protected ≡ true → is_binding asked quoted ≡ true
allowed-binding asked quoted allowed protected =
    let parts = and_parts (not (is_named asked quoted)) (quoted.protected || asked.manual) allowed in
    and_from (not (is_named asked quoted)) quoted.protected parts.0 protected

swept : (seen : Seen) (asked : Terms) (fees : Charges) (legs : List Leg) → Legs seen asked legs
    → ((quoted : Row) → In quoted (contra_rows asked.side seen) → is_traded_through asked legs quoted ≡ false)
    → (row : Usable) → In row (usable seen asked fees) → 0 < given_by legs row.part → (other : Usable) → In other (usable seen asked fees)
    → other.protected ≡ true → other.rank <ℤ row.rank → given_by legs other.part ≡ other.size
swept seen asked fees legs is clear row within some other also protected less =
    let of' = usable_is seen asked fees row within in
    let of_other = usable_is seen asked fees other also in
    let leg = comes_by seen asked legs is of'.0 of'.1.within (subst (λ (one : Usable). 0 < given_by legs one.part) of'.1.is some) in
    let ranks : (usable_row asked fees of_other.0).rank <ℤ (usable_row asked fees of'.0).rank =
    subst (λ (one : Usable). one.rank <ℤ (usable_row asked fees of'.0).rank) of_other.1.is
    (subst (λ (one : Usable). other.rank <ℤ one.rank) of'.1.is less) in
    let better = better-from-rank asked.side of_other.0.price of'.0.price ranks in
    let beyond = subst (λ p. is_better asked.side of_other.0.price p ≡ true) (sym leg.1.price) better in
    let binding = allowed-binding asked of_other.0 of_other.1.allowed
    (subst (λ (one : Usable). one.protected ≡ true) of_other.1.is protected) in
    let full = swept-step asked legs of_other.0 leg.0 (clear of_other.0 of_other.1.within) binding leg.1.within beyond
    (cases_lt (given_by legs of_other.0.part) of_other.0.size) (cases_Bool (has_leg_beyond asked.side of_other.0.price legs)) in
    let within' = given_within seen asked legs is of_other.0 of_other.1.within (cases_lt 0 (given_by legs of_other.0.part)) in
    subst (λ (one : Usable). given_by legs one.part ≡ one.size) (sym of_other.1.is) (omega (arith, full, within'))

-- ---- a plan without a breach is lawful

int-eq : (one other : ℤ) → int_eq one other ≡ true → one ≡ other
int-eq one other e = (Decides-int_eq one other).0 e

passes-legs : (seen : Seen) (asked : Terms) (fees : Charges) (plan : Plan) → Passes seen asked fees plan → AreRows seen.bids
    → AreRows seen.offers → Legs seen asked plan.legs.items
passes-legs seen asked fees plan passes bids offers = record {
  rows = rows_apart asked.side seen bids offers;
  once = Apart-has_repeat plan.legs.items passes.once;
  shares = passes-shares seen asked fees plan passes;
  served = passes-serves seen asked fees plan passes;
}

leg_price_shown : (seen : Seen) (asked : Terms) (leg : Leg) → (row : Row) × Serves seen asked leg row
    → Any (λ row. (row.part ≡ leg.part) × (row.price ≡ leg.price)) (contra_rows asked.side seen)
leg_price_shown seen asked leg row =
    let at = served seen asked leg row.0 row.1 in
    Any-In (λ one. (one.part ≡ leg.part) × (one.price ≡ leg.price)) (contra_rows asked.side seen) row.0 at.0 (at.1, sym row.1.price)

lawful-from : (seen : Seen) (asked : Terms) (fees : Charges) (plan : Plan) → Passes seen asked fees plan → Legs seen asked plan.legs.items
    → IsLawful (usable seen asked fees) asked.shares (given_by plan.legs.items)
lawful-from seen asked fees plan passes is =
    let legs : List Leg = plan.legs.items in
    let rows : List Usable = usable seen asked fees in
    record {
      on_usable = on_usable seen asked fees legs is;
      within = All-In (λ row. given_by legs row.part ≤ row.size) rows (usable_within seen asked fees legs is);
      at_most =
          let sum = filled-given legs rows (usable_apart seen asked fees is.rows)
          (λ leg within. let row = is.served leg within in
          (usable_row asked fees row.0, leg_row_usable seen asked fees leg row.0 row.1, sym (served seen asked leg row.0 row.1).1)) in
          omega (arith, sum, ltb-false asked.shares (sum_of legs) passes.asked);
      swept = All-In (λ row. 0 < given_by legs row.part → SweepsBetter rows (given_by legs) row) rows (λ row within some.
          All-In (λ other. other.protected ≡ true → other.rank <ℤ row.rank → given_by legs other.part ≡ other.size) rows
          (swept seen asked fees legs is (find-none (is_traded_through asked legs) (contra_rows asked.side seen) passes.through) row within
          some));
    }

pub faultless_of_none : (seen : Seen) (asked : Terms) (fees : Charges) (plan : Plan) → AreRows seen.bids → AreRows seen.offers
    → breach_of seen asked fees plan ≡ None → IsFaultless seen asked fees plan
faultless_of_none seen asked fees plan bids offers none =
    let passes = passes-none seen asked fees plan none in
    let is = passes-legs seen asked fees plan passes bids offers in
    let legs : List Leg = plan.legs.items in
    let orders = or_parts (not (is_same_order plan.order asked)) (not (plan.order.sym == seen.sym)) passes.same in
    let same : plan.order ≡ asked = order-from plan.order asked (not-false (is_same_order plan.order asked) orders.0) in
    let symbol : plan.order.sym ≡ seen.sym = eqb-true plan.order.sym seen.sym (not-false (plan.order.sym == seen.sym) orders.1) in
    record {
      version = eqb-true plan.version seen.version (not-false (plan.version == seen.version) passes.version);
      order = same;
      symbol = ap (λ (terms : Terms). terms.sym) (sym same) ∙ symbol;
      shares = All-In (λ leg. 1 ≤ leg.shares) legs is.shares;
      prices = All-In (λ leg. Any (λ row. (row.part ≡ leg.part) × (row.price ≡ leg.price)) (contra_rows asked.side seen)) legs
          (λ leg within. leg_price_shown seen asked leg (is.served leg within));
      once = IsDistinct-Apart leg_part legs is.once;
      lawful = lawful-from seen asked fees plan passes is;
      filled = eqb-true plan.filled (sum_of legs) (not-false (plan.filled == sum_of legs) passes.filled);
      cost = int-eq plan.cost (cost_of fees asked.side legs) (not-false (int_eq plan.cost (cost_of fees asked.side legs)) passes.cost);
    }

-- ---- a lawful plan is without a breach

-- the usable row of a leg, as a quotation, is the one at the leg's price
serves-step : (seen : Seen) (asked : Terms) (fees : Charges) (legs : List Leg) → Apart place (contra_rows asked.side seen)
    → Apart leg_part legs → (leg : Leg) → In leg legs
    → (quoted : Row) → In quoted (contra_rows asked.side seen) → quoted.part ≡ leg.part → quoted.price ≡ leg.price
    → (row : Usable) → In row (usable seen asked fees) → row.part ≡ leg.part → given_by legs row.part ≤ row.size
    → (found : Option Row) → row_for seen asked.side leg ≡ found → (one : Row) × Serves seen asked leg one
serves-step seen asked fees legs rows once leg within quoted shown part price row also same size None is =
    absurd (both_ways (quoted.part == leg.part) (find-none (λ one. one.part == leg.part) (contra_rows asked.side seen) is quoted shown)
    (eq-eqb quoted.part leg.part part))
serves-step seen asked fees legs rows once leg within quoted shown part price row also same size (Some one) is =
    let at = find-is (λ (other : Row). other.part == leg.part) (contra_rows asked.side seen) one is in
    let at_part : one.part ≡ leg.part = eqb-true one.part leg.part at.1 in
    let first : quoted ≡ one = Apart-same place (contra_rows asked.side seen) rows quoted one shown at.0 (part ∙ sym at_part) in
    let of' = usable_is seen asked fees row also in
    let of_part : of'.0.part ≡ leg.part = ap row_part (sym of'.1.is) ∙ same in
    let second : of'.0 ≡ one = Apart-same place (contra_rows asked.side seen) rows of'.0 one of'.1.within at.0 (of_part ∙ sym at_part) in
    let size' = subst (λ (other : Usable). given_by legs other.part ≤ other.size) of'.1.is size in
    let given = given-leg legs once leg within in (
      one,
      record {
        found = is;
        allowed = subst (λ (other : Row). is_allowed asked other ≡ true) second of'.1.allowed;
        price = sym price ∙ ap (λ (other : Row). other.price) first;
        size = omega (arith, given, ap (given_by legs) of_part, size', ap (λ (other : Row). other.size) second);
        limit = subst (λ (other : Row). is_better asked.side asked.limit other.price ≡ false) second of'.1.limit;
      },
    )

faultless-serves : (seen : Seen) (asked : Terms) (fees : Charges) (plan : Plan) → AreRows seen.bids → AreRows seen.offers
    → IsFaultless seen asked fees plan → (leg : Leg) → In leg plan.legs.items → (row : Row) × Serves seen asked leg row
faultless-serves seen asked fees plan bids offers is leg within =
    let legs : List Leg = plan.legs.items in
    let once = Apart-IsDistinct leg_part legs is.once in
    let shares = In-All (λ one. 1 ≤ one.shares) legs is.shares leg within in
    let shown = In-Any (λ row. (row.part ≡ leg.part) × (row.price ≡ leg.price)) (contra_rows asked.side seen)
    (In-All (λ one. Any (λ row. (row.part ≡ one.part) × (row.price ≡ one.price)) (contra_rows asked.side seen)) legs is.prices leg within)
    in
    let row = In-Any (λ one. one.part ≡ leg.part) (usable seen asked fees)
    (is.lawful.on_usable leg.part (omega (arith, shares, given-leg legs once leg within))) in
    serves-step seen asked fees legs (rows_apart asked.side seen bids offers) once leg within shown.0 shown.1 shown.2.0 shown.2.1 row.0
    row.1 row.2
    (In-All (λ one. given_by legs one.part ≤ one.size) (usable seen asked fees) is.lawful.within row.0 row.1) (row_for seen asked.side leg)
    refl

faultless-legs : (seen : Seen) (asked : Terms) (fees : Charges) (plan : Plan) → AreRows seen.bids → AreRows seen.offers
    → IsFaultless seen asked fees plan → Legs seen asked plan.legs.items
faultless-legs seen asked fees plan bids offers is = record {
  rows = rows_apart asked.side seen bids offers;
  once = Apart-IsDistinct leg_part plan.legs.items is.once;
  shares = In-All (λ leg. 1 ≤ leg.shares) plan.legs.items is.shares;
  served = faultless-serves seen asked fees plan bids offers is;
}

-- a quotation that is served in full, or has no leg beyond it, is not traded through
clear-step : (asked : Terms) (legs : List Leg) (quoted : Row)
    → ((leg : Leg) → In leg legs → is_binding asked quoted ≡ true → is_better asked.side quoted.price leg.price ≡ true
    → quoted.size ≤ given_by legs quoted.part)
    → (is_traded_through asked legs quoted ≡ true) ⊎ (is_traded_through asked legs quoted ≡ false)
    → is_traded_through asked legs quoted ≡ false
unfolding is_traded_through
clear-step asked legs quoted full (inr clear) = clear
clear-step asked legs quoted full (inl through) =
    let last = and_parts (is_binding asked quoted && nat_lt (given_by legs quoted.part) quoted.size)
    (has_leg_beyond asked.side quoted.price legs) through in
    let first = and_parts (is_binding asked quoted) (nat_lt (given_by legs quoted.part) quoted.size) last.0 in
    let leg = list_any-some (λ one. is_better asked.side quoted.price one.price) legs last.1 in
    absurd (omega (arith, ltb-true (given_by legs quoted.part) quoted.size first.1, full leg.0 leg.1 first.0 leg.2))

full-size : (seen : Seen) (asked : Terms) (fees : Charges) (legs : List Leg) → Legs seen asked legs
    → IsLawful (usable seen asked fees) asked.shares (given_by legs)
    → (quoted : Row) → In quoted (contra_rows asked.side seen) → (leg : Leg) → In leg legs → is_binding asked quoted ≡ true
    → is_better asked.side quoted.price leg.price ≡ true → quoted.size ≤ given_by legs quoted.part
full-size seen asked fees legs is lawful quoted shown leg within binding better =
    let parts = and_parts (not (is_named asked quoted)) quoted.protected binding in
    let protected = parts.1 in
    let rows : List Usable = usable seen asked fees in
    let row = is.served leg within in
    let at = served seen asked leg row.0 row.1 in
    let better' : is_better asked.side quoted.price row.0.price ≡ true =
    subst (λ p. is_better asked.side quoted.price p ≡ true) row.1.price better in
    let limit = within-limit asked.side asked.limit quoted.price row.0.price row.1.limit better' in
    let allowed : is_allowed asked quoted ≡ true =
    and_from (not (is_named asked quoted)) (quoted.protected || asked.manual) parts.0 (or_left quoted.protected asked.manual protected) in
    let quoted_in = is_usable-from seen asked fees quoted shown allowed limit in
    let some : 0 < given_by legs row.0.part =
    omega (arith, is.shares leg within, given-leg legs is.once leg within, ap (given_by legs) at.1) in
    let sweeps = In-All (λ one. 0 < given_by legs one.part → SweepsBetter rows (given_by legs) one) rows lawful.swept
    (usable_row asked fees row.0) (leg_row_usable seen asked fees leg row.0 row.1) some in
    let full = In-All (λ other. other.protected ≡ true → other.rank <ℤ (usable_row asked fees row.0).rank
    → given_by legs other.part ≡ other.size) rows sweeps (usable_row asked fees quoted) quoted_in protected
    (rank-from-better asked.side quoted.price row.0.price better') in
    omega (arith, full)

-- the tests of a leg by its quotation
served-tests : (seen : Seen) (asked : Terms) (leg : Leg) (row : Row) → Serves seen asked leg row
    → (lacks_quotation asked (row_for seen asked.side leg) ≡ false) × (has_other_price leg (row_for seen asked.side leg) ≡ false)
    × (is_over_size leg (row_for seen asked.side leg) ≡ false) × (is_beyond_limit asked leg ≡ false)
served-tests seen asked leg row serves =
    rw serves.found (
      not_from_true (is_allowed asked row) serves.allowed,
      not_from_true (leg.price == row.price) (eq-eqb leg.price row.price serves.price),
      le-ltb row.size leg.shares serves.size,
      subst (λ p. is_better asked.side asked.limit p ≡ false) (sym serves.price) serves.limit,
    )

faultless-passes : (seen : Seen) (asked : Terms) (fees : Charges) (plan : Plan) → AreRows seen.bids → AreRows seen.offers
    → IsFaultless seen asked fees plan → Passes seen asked fees plan
unfolding some_lacks_quotation some_has_other_price some_has_no_shares some_is_over_size some_is_beyond_limit
faultless-passes seen asked fees plan bids offers is =
    let legs : List Leg = plan.legs.items in
    let rows : List Usable = usable seen asked fees in
    let served' = faultless-legs seen asked fees plan bids offers is in
    let tests : (leg : Leg) → In leg legs → (lacks_quotation asked (row_for seen asked.side leg) ≡ false)
    × (has_other_price leg (row_for seen asked.side leg) ≡ false) × (is_over_size leg (row_for seen asked.side leg) ≡ false)
    × (is_beyond_limit asked leg ≡ false) =
    λ leg within. let row = served'.served leg within in served-tests seen asked leg row.0 row.1 in
    record {
      version = not_from_true (plan.version == seen.version) (eq-eqb plan.version seen.version is.version);
      same = or_from (not (is_same_order plan.order asked)) (not (plan.order.sym == seen.sym))
          (not_from_true (is_same_order plan.order asked)
          (subst (λ (terms : Terms). is_same_order terms asked ≡ true) (sym is.order) (order-to asked)))
          (not_from_true (plan.order.sym == seen.sym)
          (eq-eqb plan.order.sym seen.sym (ap (λ (terms : Terms). terms.sym) is.order ∙ is.symbol)));
      quotation = list_any-false (λ one. lacks_quotation asked (row_for seen asked.side one)) legs (λ leg within. (tests leg within).0);
      price = list_any-false (λ one. has_other_price one (row_for seen asked.side one)) legs (λ leg within. (tests leg within).1);
      shares = list_any-false has_no_shares legs
          (λ leg within. let some = served'.shares leg within in ne_eqb leg.shares 0 (λ e. omega (arith, some, e)));
      size = list_any-false (λ one. is_over_size one (row_for seen asked.side one)) legs (λ leg within. (tests leg within).2);
      once = has_repeat-Apart legs served'.once;
      limit = list_any-false (is_beyond_limit asked) legs (λ leg within. (tests leg within).3);
      asked =
          let sum = filled-given legs rows (usable_apart seen asked fees served'.rows)
          (λ leg within. let row = served'.served leg within in
          (usable_row asked fees row.0, leg_row_usable seen asked fees leg row.0 row.1, sym (served seen asked leg row.0 row.1).1)) in
          le-ltb asked.shares (sum_of legs) (omega (arith, sum, is.lawful.at_most));
      through = find-nothing (is_traded_through asked legs) (contra_rows asked.side seen) (λ quoted shown.
          clear-step asked legs quoted (full-size seen asked fees legs served' is.lawful quoted shown)
          (cases_Bool (is_traded_through asked legs quoted)));
      filled = not_from_true (plan.filled == sum_of legs) (eq-eqb plan.filled (sum_of legs) is.filled);
      cost = not_from_true (int_eq plan.cost (cost_of fees asked.side legs))
          ((Decides-int_eq plan.cost (cost_of fees asked.side legs)).1 is.cost);
    }

pub none_of_faultless : (seen : Seen) (asked : Terms) (fees : Charges) (plan : Plan) → AreRows seen.bids → AreRows seen.offers
    → IsFaultless seen asked fees plan → breach_of seen asked fees plan ≡ None
none_of_faultless seen asked fees plan bids offers is =
    none-passes seen asked fees plan (faultless-passes seen asked fees plan bids offers is)
