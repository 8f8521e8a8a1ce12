-- The laws of `specs/ReducedLaws`: numbers say one view, those of a reduced view say it, and a plan on them is one on it.
use Rattle.std.specs.Prelude.{All, IfSome, IsSome, IfOk, Option}
use Rattle.std.proofs.Common.{◌≡◌, ℕ, ◌+◌, ◌<◌, ◌≤◌, Some, None, List, length, sym, ap, ◌∙◌, subst, arith}
use Rattle.nms_quote.specs.declared.TheConstants.{MOST_SYMBOLS}
use Rattle.nms_quote.specs.declared.side_quote.Side.{Side}
use Rattle.nms_quote.specs.declared.side_quote.Side.TheVariants.{Bid, Offer}
use Rattle.nms_board.specs.Ranking.{ranked}
use Rattle.nms_board.specs.View.{AreRows, Seen}
use Rattle.nms_board.specs.declared.TheConstants.{MOST_ROWS}
use Rattle.nms_board.specs.declared.row.Row.{Row}
use Rattle.nms_board.proofs.Offered.{one_side, rows_in_order}
use Rattle.nms_calls.specs.Opened.{error_of}
use Rattle.nms_calls.specs.PlanNumbers.{IsBestOn}
use Rattle.nms_calls.specs.ReducedLaws.{NumbersSayOneView, PlansAreOnTheReducedView, ReducedNumbersAreReadSo, ReducedNumbersSayTheView}
use Rattle.nms_calls.specs.RowNumbers.{AreRanked}
use Rattle.nms_calls.specs.ViewCalls.{order_on}
use Rattle.nms_calls.specs.ViewReduced.{AreOfView, reduced_row, reduced_rows, reduced_view}
use Rattle.nms_calls.specs.ViewSaid.{IsOfLook, IsSideSaid, IsViewSaid}
use Rattle.nms_calls.specs.declared.row_numbers.NmsRows.{NmsRows}
use Rattle.nms_calls.specs.declared.row_numbers.NmsView.{NmsView}
use Rattle.nms_calls.proofs.ReducedLemmas.{IsLeftOf, all-filter_map, left_of, rows_left}
use Rattle.nms_calls.proofs.SideLemmas.{length-filter_map}
use Rattle.nms_calls.proofs.ViewLemmas.{is_order, order_said, side_in}

-- ---- numbers say one view

-- a side of a roster is one of a larger roster
widen : (side : Side) (parts more version : ℕ) (rows : List Row) (numbers : NmsRows) → IsSideSaid side parts version rows numbers
    → IsSideSaid side (parts + more) version rows numbers
widen side parts more version rows numbers said = record {
  shown = said.shown;
  each = λ k d below.
      let one = said.each k d below in
      record {
        price_low = one.price_low;
        price_high = one.price_high;
        part = omega (arith, one.part);
        receipt_low = one.receipt_low;
        receipt_high = one.receipt_high;
      };
  few = said.few;
  count = said.count;
  total = said.total;
  places = said.places;
}

side_once : (side : Side) (parts version : ℕ) (rows others : List Row) (numbers : NmsRows) → IsSideSaid side parts version rows numbers
    → IsSideSaid side parts version others numbers → rows ≡ others
side_once side parts version rows others numbers said also =
    one_side side rows others (ranked side others) said.shown also.shown
    (is_order side parts version rows (ranked side others) numbers said (order_said side parts version others numbers also))
    (rows_in_order side others also.shown)

-- two sides in the version of the numbers, on rosters of any two sizes
sides_once : (side : Side) (parts others : ℕ) (seen other : Seen) (numbers : NmsView) (rows second : List Row) (arrays : NmsRows)
    → IsViewSaid parts seen numbers → IsViewSaid others other numbers → IsSideSaid side parts seen.version rows arrays
    → IsSideSaid side others other.version second arrays → rows ≡ second
sides_once side parts others seen other numbers rows second arrays said also one two =
    let wide = widen side parts others numbers.version rows arrays (side_in side parts seen numbers rows arrays said one) in
    let again = widen side others parts numbers.version second arrays (side_in side others other numbers second arrays also two) in
    side_once side (parts + others) numbers.version rows second arrays wide
    (subst (λ n. IsSideSaid side n numbers.version second arrays) (omega arith) again)

pub one_view : NumbersSayOneView
one_view parts others seen other numbers said also =
    let version : seen.version ≡ other.version = sym said.version ∙ also.version in
    let symbol : seen.sym ≡ other.sym = sym said.of_sym ∙ also.of_sym in
    let bids = sides_once Bid parts others seen other numbers seen.bids other.bids numbers.bid said also said.bids also.bids in
    let offers = sides_once Offer parts others seen other numbers seen.offers other.offers numbers.offer said also said.offers also.offers in
    λ i. record { version = version i; sym = symbol i; bids = bids i; offers = offers i }

-- ---- the numbers of a reduced view say it

-- rows that a look may show on a side
record AreLooked (parts version : ℕ) (rows : List Row) : Type 0 where
  shown : AreRows rows
  each : All (IsOfLook parts version) rows
  few : length rows ≤ MOST_ROWS

looked : (side : Side) (parts version : ℕ) (rows : List Row) (numbers : NmsRows) → IsSideSaid side parts version rows numbers
    → AreLooked parts version rows
looked side parts version rows numbers said = record { shown = said.shown; each = said.each; few = said.few }

left_looked : (most : List ℕ) (parts version : ℕ) (rows : List Row) → AreLooked parts version rows
    → AreLooked parts version (reduced_rows most rows)
left_looked most parts version rows are = record {
  shown = rows_left most rows are.shown;
  each = all-filter_map (IsOfLook parts version) (IsOfLook parts version) (reduced_row most) one rows are.each;
  few = omega (arith, are.few, length-filter_map (reduced_row most) rows);
}
  where
    one : (row : Row) → IsOfLook parts version row → IfSome (reduced_row most row) (IsOfLook parts version)
    one row of = by (reduced_row most row) (left_of most row)
      where
        by : (left : Option Row) → IfSome left (IsLeftOf most row) → IfSome left (IsOfLook parts version)
        by None is = tt
        by (Some left) is = record {
          price_low = omega (arith, of.price_low, is.price);
          price_high = omega (arith, of.price_high, is.price);
          part = omega (arith, of.part, is.part);
          receipt_low = omega (arith, of.receipt_low, is.receipt);
          receipt_high = omega (arith, of.receipt_high, is.receipt);
        }

side_again : (side : Side) (parts version : ℕ) (rows : List Row) (out : NmsRows) → AreLooked parts version rows → AreRanked side rows out
    → IsSideSaid side parts version rows out
side_again side parts version rows out are ranks = record {
  shown = are.shown;
  each = are.each;
  few = are.few;
  count = ranks.count_of;
  total = ranks.total_of;
  places = λ place within. ranks.places place (omega (arith, within, are.few));
}

view_again : (parts : ℕ) (seen : Seen) (out : NmsView) → seen.sym < MOST_SYMBOLS → AreLooked parts seen.version seen.bids
    → AreLooked parts seen.version seen.offers → AreOfView seen out → IsViewSaid parts seen out
view_again parts seen out below bids offers of = record {
  version = of.version;
  of_sym = of.of_sym;
  sym_within = below;
  bids = side_again Bid parts seen.version seen.bids out.bid bids of.bids;
  offers = side_again Offer parts seen.version seen.offers out.offer offers of.offers;
  market = of.market;
}

pub said_again : ReducedNumbersSayTheView
said_again parts Bid most seen numbers out said of =
    view_again parts (reduced_view Bid most seen) out said.sym_within
    (left_looked most parts seen.version seen.bids (looked Bid parts seen.version seen.bids numbers.bid said.bids))
    (looked Offer parts seen.version seen.offers numbers.offer said.offers) of
said_again parts Offer most seen numbers out said of =
    view_again parts (reduced_view Offer most seen) out said.sym_within
    (looked Bid parts seen.version seen.bids numbers.bid said.bids)
    (left_looked most parts seen.version seen.offers (looked Offer parts seen.version seen.offers numbers.offer said.offers)) of

-- this is what is read of them
pub read_so : ReducedNumbersAreReadSo
read_so parts side most seen numbers out read said of is =
    let left : Seen = reduced_view side most seen in
    let again = said_again parts side most seen numbers out said of in
    by read is.view (is.all left again) again
  where
    by : (read : Option Seen) → IfSome read (λ found. IsViewSaid parts found out) → IsSome read
        → IsViewSaid parts (reduced_view side most seen) out → read ≡ Some (reduced_view side most seen)
    by None found some again = absurd (cc)
    by (Some other) found some again = ap Some (one_view parts parts other (reduced_view side most seen) out found again)

-- ---- a plan

pub plans_are_on : PlansAreOnTheReducedView
plans_are_on settings side most seen numbers reduced order told out said of planned =
    let is = read_so (length settings.roster.parts) side most seen numbers reduced planned.view said of planned.said in
    record {
      answer = subst (λ (view : Option Seen). told ≡ error_of (order_on settings view order)) is planned.answer;
      best = subst (λ (view : Option Seen). IfSome view (λ seen. IfOk (order_on settings view order) (λ terms. IsBestOn seen
          settings.fees terms out))) is planned.best;
    }
