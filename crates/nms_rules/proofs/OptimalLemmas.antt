-- An accepted plan is optimal.
use Rattle.std.proofs.Common.{◌≡◌, List, map, get_or, All, refl, ap, sym, ◌∙◌, subst, arith}
use Rattle.std.specs.List.{filter}
use Rattle.std.specs.List.Sorted.{IsStrictlyIncreasing}
use Rattle.std.proofs.lemmas.Int.{ints}
use Rattle.std.proofs.lemmas.List.Elements.{All-map, recursion_from_All}
use Rattle.nms_quote.specs.Terms.{Terms}
use Rattle.nms_quote.specs.declared.certificate.Cut.{Cut}
use Rattle.nms_quote.specs.declared.certificate.CutKind.{CutKind}
use Rattle.nms_quote.specs.declared.order.OrderSide.{OrderSide}
use Rattle.nms_quote.specs.declared.order.OrderSide.TheVariants.{Buy, Sell}
use Rattle.nms_quote.specs.declared.plan.Plan.{Plan}
use Rattle.nms_board.specs.View.{AreRows, Seen}
use Rattle.nms_fee_book.specs.Fees.{Charges}
use Rattle.nms_rules.specs.Accepted.{IsAccepted}
use Rattle.nms_rules.specs.Assignment.{IsOptimal, fillable, total_cost}
use Rattle.nms_rules.specs.Cutoff.{KindHolds}
use Rattle.nms_rules.specs.Faultless.{given_by}
use Rattle.nms_rules.specs.Laws.{IsBestPlan}
use Rattle.nms_rules.specs.Usable.{Usable, contra_rows, is_usable, rank_of, usable, usable_row}
use Rattle.nms_rules.proofs.PaidLemmas.{sums_rightly}
use Rattle.nms_rules.proofs.SoundLemmas.{sound}

-- each row is ranked by its price
ranked : (seen : Seen) (asked : Terms) (fees : Charges) → All (λ row. row.rank ≡ rank_of asked.side row.price) (usable seen asked fees)
ranked seen asked fees = All-map (λ row. row.rank ≡ rank_of asked.side row.price) (usable_row asked fees)
    (filter (is_usable asked) (contra_rows asked.side seen)) (λ k d below. refl)

-- each row's price has a cut that holds
row_cut : (seen : Seen) (asked : Terms) (fees : Charges) (plan : Plan) (cuts : List Cut) → IsAccepted seen asked fees plan cuts
    → All (λ row. (kind : CutKind) × KindHolds (usable seen asked fees) (fillable (usable seen asked fees) asked.shares) plan.cost row.rank
    kind) (usable seen asked fees)
row_cut seen asked fees plan cuts is k d below =
    let rows : List Usable = usable seen asked fees in
    let row = get_or rows k d in
    let any = is.each_price k d below in
    let cut = any.1 in
    let holds : KindHolds rows (fillable rows asked.shares) plan.cost (rank_of asked.side cut.price) cut.kind =
    subst (λ (one : Cut). KindHolds rows (fillable rows asked.shares) plan.cost (rank_of asked.side one.price) one.kind) any.3
    (is.holds any.0 cut any.2) in
    let same : rank_of asked.side cut.price ≡ row.rank = ap (rank_of asked.side) any.4 ∙ sym (ranked seen asked fees k d below) in
    (cut.kind, subst (λ rank. KindHolds rows (fillable rows asked.shares) plan.cost rank cut.kind) same holds)

pub optimal : (seen : Seen) (asked : Terms) (fees : Charges) (plan : Plan) (cuts : List Cut)
    → IsStrictlyIncreasing (map (λ row. row.part) (contra_rows asked.side seen)) → IsAccepted seen asked fees plan cuts
    → IsOptimal (usable seen asked fees) asked.shares (given_by plan.legs.items)
optimal seen asked fees plan cuts rising is =
    let rows : List Usable = usable seen asked fees in
    let sums = sums_rightly seen asked fees plan rising is.faultless in
    let each = recursion_from_All (λ (row : Usable). (kind : CutKind)
    × KindHolds rows (fillable rows asked.shares) (total_cost (given_by plan.legs.items) rows) row.rank kind) rows
    (subst (λ cost. All (λ (row : Usable). (kind : CutKind) × KindHolds rows (fillable rows asked.shares) cost row.rank kind) rows)
    (sym sums.cost_is) (row_cut seen asked fees plan cuts is)) in
    sound rows asked.shares (given_by plan.legs.items) is.faultless.lawful (sums.filled_is ∙ is.full) each

rows-rise : (side : OrderSide) (seen : Seen) → AreRows seen.bids → AreRows seen.offers
    → IsStrictlyIncreasing (map (λ row. row.part) (contra_rows side seen))
rows-rise Buy seen bids offers = offers.rising
rows-rise Sell seen bids offers = bids.rising

pub accepted_optimal : (seen : Seen) (asked : Terms) (fees : Charges) (plan : Plan) (cuts : List Cut) → AreRows seen.bids
    → AreRows seen.offers → IsAccepted seen asked fees plan cuts
    → IsOptimal (usable seen asked fees) asked.shares (given_by plan.legs.items)
accepted_optimal seen asked fees plan cuts bids offers is = optimal seen asked fees plan cuts (rows-rise asked.side seen bids offers) is

-- what a lawful plan fills and costs is what its legs give the rows, so none is better than an optimal one
pub accepted_best : (seen : Seen) (asked : Terms) (fees : Charges) (plan : Plan) (cuts : List Cut) → AreRows seen.bids → AreRows seen.offers
    → IsAccepted seen asked fees plan cuts
    → IsBestPlan seen asked fees plan
accepted_best seen asked fees plan cuts bids offers is =
    let rising = rows-rise asked.side seen bids offers in
    let mine = sums_rightly seen asked fees plan rising is.faultless in
    let best = optimal seen asked fees plan cuts rising is in
    record {
      lawful = is.faultless;
      most = λ other lawful.
          let sums = sums_rightly seen asked fees other rising lawful in
          omega (arith, mine.filled_is, sums.filled_is, best.most (given_by other.legs.items) lawful.lawful);
      cheapest = λ other lawful same.
          let sums = sums_rightly seen asked fees other rising lawful in
          omega (
            arith,
            ints,
            mine.cost_is,
            sums.cost_is,
            best.cheapest (given_by other.legs.items) lawful.lawful (sums.filled_is ∙ same ∙ sym mine.filled_is),
          );
    }
