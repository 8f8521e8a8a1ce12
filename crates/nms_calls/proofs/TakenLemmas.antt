-- `takes_no_more`: a leg goes to a usable row, which shows no more shares than are left of its participant.
use Rattle.std.specs.Prelude.{All}
use Rattle.std.proofs.Common.{◌≡◌, ℕ, zero, suc, ◌<◌, ◌≤◌, List, [], ◌∷◌, length, map, get_or, Option, Some, None}
use Rattle.std.proofs.Common.{IfSome, slice_index, refl, sym, ap, subst, arith}
use Rattle.std.specs.List.{filter}
use Rattle.std.proofs.lemmas.List.Elements.{All-contains, All-filter, All-map}
use Rattle.nms_quote.specs.Terms.{Terms}
use Rattle.nms_quote.specs.declared.order.OrderSide.{OrderSide}
use Rattle.nms_quote.specs.declared.order.OrderSide.TheVariants.{Buy, Sell}
use Rattle.nms_quote.specs.declared.plan.Leg.{Leg}
use Rattle.nms_board.specs.View.{Seen}
use Rattle.nms_board.specs.declared.row.Row.{Row}
use Rattle.nms_fee_book.specs.Fees.{Charges}
use Rattle.nms_rules.specs.Faultless.{given_by}
use Rattle.nms_rules.specs.Usable.{Usable, contra, contra_rows, is_usable, usable, usable_row}
use Rattle.nms_rules.proofs.Offered.{gives-own, given-cons}
use Rattle.nms_calls.specs.ReducedLaws.{LawfulPlansTakeNoMore}
use Rattle.nms_calls.specs.ViewReduced.{reduced_row, reduced_rows, reduced_view}
use Rattle.nms_calls.proofs.ReducedLemmas.{IsLeftOf, all-filter_map, left_of}

-- a participant gets at least the shares of a leg to it
given-leg : (legs : List Leg) (k : ℕ) (d : Leg) → k < length legs → (get_or legs k d).shares ≤ given_by legs (get_or legs k d).part
given-leg [] k d below = absurd (omega arith)
given-leg (leg ∷ legs) zero d below = omega (arith, given-cons leg legs leg.part, gives-own leg leg.part refl)
given-leg (leg ∷ legs) (suc k) d below =
    let part : ℕ = (get_or legs k d).part in omega (arith, given-cons leg legs part, given-leg legs k d (omega arith))

-- a usable row of a reduced side
abbrev IsGiven : List ℕ → Usable → Type 0
IsGiven most row = row.size ≤ slice_index most row.part

left_given : (most : List ℕ) (row : Row) → IfSome (reduced_row most row) (λ left. left.size ≤ slice_index most left.part)
left_given most row = by (reduced_row most row) (left_of most row)
  where
    by : (left : Option Row) → IfSome left (IsLeftOf most row) → IfSome left (λ left. left.size ≤ slice_index most left.part)
    by None is = tt
    by (Some left) is = is.given

all_given : (most : List ℕ) (order : Terms) (fees : Charges) (rows : List Row)
    → All (IsGiven most) (map (usable_row order fees) (filter (is_usable order) (reduced_rows most rows)))
all_given most order fees rows =
    All-map (IsGiven most) (usable_row order fees) (filter (is_usable order) (reduced_rows most rows))
    (All-filter (is_usable order) (λ row. row.size ≤ slice_index most row.part) (reduced_rows most rows)
    (all-filter_map (λ row. row ≡ row) (λ row. row.size ≤ slice_index most row.part) (reduced_row most) (λ row e. left_given most row) rows
    (λ k d below. refl)))

-- the side that an order trades with is the one that is reduced
traded : (side : OrderSide) (most : List ℕ) (seen : Seen)
    → contra_rows side (reduced_view (contra side) most seen) ≡ reduced_rows most (contra_rows side seen)
traded Buy most seen = refl
traded Sell most seen = refl

usable_given : (most : List ℕ) (order : Terms) (fees : Charges) (seen : Seen)
    → All (IsGiven most) (usable (reduced_view (contra order.side) most seen) order fees)
usable_given most order fees seen =
    subst (λ (rows : List Row). All (IsGiven most) (map (usable_row order fees) (filter (is_usable order) rows)))
    (sym (traded order.side most seen)) (all_given most order fees (contra_rows order.side seen))

pub takes_no_more : LawfulPlansTakeNoMore
takes_no_more seen most order fees plan is k d below =
    let legs : List Leg = plan.legs.items in
    let leg : Leg = get_or legs k d in
    let rows : List Usable = usable (reduced_view (contra order.side) most seen) order fees in
    let gets = given-leg legs k d below in
    let (i, row, within, at, of_part) = is.lawful.on_usable leg.part (omega (arith, gets, is.shares k d below)) in
    let shown : given_by legs row.part ≤ row.size =
    All-contains (λ (row : Usable). given_by legs row.part ≤ row.size) rows row is.lawful.within (i, within, at) in
    let left : row.size ≤ slice_index most row.part = All-contains (IsGiven most) rows row (usable_given most order fees seen) (i, within, at) in
    omega (arith, gets, shown, left, ap (given_by legs) of_part, ap (slice_index most) of_part)
