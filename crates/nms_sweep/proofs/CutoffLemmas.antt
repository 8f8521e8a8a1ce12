-- The cutoffs of the usable rows: each usable price once, best first, with the sums at it.
use Rattle.std.proofs.Common.{◌≡◌, ◌≤◌, List, length, Any, refl, ap, sym, ◌∙◌, subst}
use Rattle.std.specs.Prelude.{pos}
use Rattle.std.specs.List.Sorted.{IsPermutation}
use Rattle.std.proofs.lemmas.List.Sorted.{IsPermutation-sym}
use Rattle.nms_quote.specs.Terms.{Terms}
use Rattle.nms_quote.specs.declared.order.OrderSide.{OrderSide}
use Rattle.nms_board.specs.View.{Seen}
use Rattle.nms_board.specs.declared.TheConstants.{MOST_ROWS}
use Rattle.nms_fee_book.specs.Fees.{Charges}
use Rattle.nms_rules.specs.Cutoff.{pool, pool_part, swept, swept_cost, swept_cost_part, swept_part}
use Rattle.nms_rules.specs.Usable.{Usable, rank_of, usable}
use Rattle.nms_rules.proofs.Offered.{All-In, Any-In, In}
use Rattle.nms_sweep.specs.Cutoffs.{AreCutoffs, IsCutoffOf, cutoff_at, cutoffs_of}
use Rattle.nms_sweep.specs.Order.{IsOrdered}
use Rattle.nms_sweep.specs.Passed.{AreByPrice, IsPassed}
use Rattle.nms_sweep.specs.declared.cutoffs.Cutoff.{Cutoff}
use Rattle.nms_sweep.specs.declared.cutoffs.Passed.{Passed}
use Rattle.nms_sweep.specs.declared.row_order.Key.TheVariants.{Price}
use Rattle.nms_sweep.proofs.CutLemmas.{best_first, made_for, made_of}
use Rattle.nms_sweep.proofs.OrderLemmas.{in_order_from, ordered_from}
use Rattle.nms_sweep.proofs.PlanLemmas.{in_other, usable_is}
use Rattle.nms_sweep.proofs.TotalLemmas.{amount_same, total_same}
use Rattle.nms_sweep.proofs.WalkLemmas.{begins}

-- the sums at a row's price are the same in any order of the rows
sums-at : (side : OrderSide) (rows by_price : List Usable) → IsPermutation rows by_price → (row : Usable)
    → row.rank ≡ rank_of side row.price → IsCutoffOf side rows (cutoff_at by_price row)
sums-at side rows by_price same row is = record {
  swept = total_same (swept_part row.rank) rows by_price same ∙ ap (λ rank. swept rank rows) is;
  swept_cost = amount_same (swept_cost_part row.rank) rows by_price same ∙ ap (λ rank. swept_cost rank rows) is;
  pool = total_same (pool_part row.rank) rows by_price same ∙ ap (λ rank. pool rank rows) is;
}

are_cutoffs : (side : OrderSide) (rows by_price : List Usable) → IsPermutation rows by_price → IsOrdered Price by_price
    → ((row : Usable) → In row by_price → row.rank ≡ rank_of side row.price) → AreCutoffs side rows (cutoffs_of by_price by_price)
are_cutoffs side rows by_price same ordered ranks =
    let all : List Cutoff = cutoffs_of by_price by_price in
    record {
      each_price = All-In (λ (row : Usable). Any (λ (cutoff : Cutoff). cutoff.price ≡ row.price) all) rows (λ row within.
          let at = made_for (cutoff_at by_price) by_price row (in_other rows by_price same row within) in
          Any-In (λ (cutoff : Cutoff). cutoff.price ≡ row.price) all (cutoff_at by_price at.0) at.1 at.2);
      no_other = All-In (λ (cutoff : Cutoff). Any (λ (row : Usable). row.price ≡ cutoff.price) rows) all (λ cutoff within.
          let at = made_of (cutoff_at by_price) by_price cutoff within in
          Any-In (λ (row : Usable). row.price ≡ cutoff.price) rows at.0
          (in_other by_price rows (IsPermutation-sym rows by_price same) at.0 at.1) (ap (λ (one : Cutoff). one.price) (sym at.2)));
      best_first = best_first (λ (cutoff : Cutoff). cutoff.price) (cutoff_at by_price) (λ row. refl) side by_price ranks
          (ordered_from Price by_price (in_order_from Price by_price ordered));
      sums = All-In (λ (cutoff : Cutoff). IsCutoffOf side rows cutoff) all (λ cutoff within.
          let at = made_of (cutoff_at by_price) by_price cutoff within in
          subst (IsCutoffOf side rows) (sym at.2) (sums-at side rows by_price same at.0 (ranks at.0 at.1)));
    }

-- the usable rows have the ranks of their prices, in any order
pub usable_ranks : (seen : Seen) (asked : Terms) (fees : Charges) (rows by_price : List Usable) → rows ≡ usable seen asked fees
    → IsPermutation rows by_price → (row : Usable) → In row by_price → row.rank ≡ rank_of asked.side row.price
usable_ranks seen asked fees rows by_price are same row within =
    let at = usable_is seen asked fees row (subst (In row) are (in_other by_price rows (IsPermutation-sym rows by_price same) row within))
    in
    rw at.1.is refl

pub usable_cutoffs : (seen : Seen) (asked : Terms) (fees : Charges) (rows by_price : List Usable) → rows ≡ usable seen asked fees
    → IsPermutation rows by_price → IsOrdered Price by_price
    → AreCutoffs asked.side (usable seen asked fees) (cutoffs_of by_price by_price)
usable_cutoffs seen asked fees rows by_price are same ordered =
    are_cutoffs asked.side (usable seen asked fees) by_price (subst (λ (one : List Usable). IsPermutation one by_price) are same) ordered
    (usable_ranks seen asked fees rows by_price are same)

-- no row passed
abbrev pub no_row : Passed
no_row = record { rows = 0; shown = 0; protected = 0; cost = pos 0 }

-- if no row is passed, the walk begins
pub begins_with : (seen : Seen) (asked : Terms) (fees : Charges) (by_price : List Usable) (passed : Passed)
    → IsPermutation (usable seen asked fees) by_price → IsOrdered Price by_price → length by_price ≤ MOST_ROWS → passed ≡ no_row
    → IsPassed by_price passed
begins_with seen asked fees by_price passed same ordered few is =
    let ranks = usable_ranks seen asked fees (usable seen asked fees) by_price refl same in
    let are : AreByPrice by_price = record {
      few = few;
      ordered = ordered;
      side = asked.side;
      ranks = All-In (λ (row : Usable). row.rank ≡ rank_of asked.side row.price) by_price ranks;
    } in
    begins by_price passed are (ap (λ (one : Passed). one.rows) is) (ap (λ (one : Passed). one.shown) is)
    (ap (λ (one : Passed). one.protected) is) (ap (λ (one : Passed). one.cost) is)
