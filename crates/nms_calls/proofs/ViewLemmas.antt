-- Rows read one after another, and the view that they are.
use Rattle.std.proofs.Common.{◌≡◌, Bool, true, false, Some, ℕ, ◌<◌, List, [], ◌∷◌, ◌++◌, length, get_or, refl, sym, ap, ◌∙◌, subst}
use Rattle.std.proofs.Common.{inl, inr, arith}
use Rattle.std.specs.Prelude.{Option, unwrap_or}
use Rattle.std.proofs.lemmas.Bool.{cases_lt}
use Rattle.std.proofs.lemmas.List.{ext_get_or, length_push, get_or_append_left, get_or_push}
use Rattle.std.proofs.lemmas.List.Sorted.{All-permutation, IsPermutation-sym}
use Rattle.std.proofs.lemmas.Option.{slice_get-get_or}
use Rattle.nms_quote.specs.declared.TheConstants.{MOST_SYMBOLS}
use Rattle.nms_quote.specs.declared.side_quote.Side.{Side}
use Rattle.nms_quote.specs.declared.side_quote.Side.TheVariants.{Bid, Offer}
use Rattle.nms_board.specs.Ranking.{IsRankOrder, ranked, total_size}
use Rattle.nms_board.specs.View.{AreRows, Seen}
use Rattle.nms_board.specs.declared.row.Row.{Row}
use Rattle.nms_board.proofs.Offered.{long_as, one_side, order_of, ranked_at_is, rows_in_order}
use Rattle.nms_calls.specs.RowNumbers.{IsRowAt, flag, market_between, row_numbers, some_row}
use Rattle.nms_calls.specs.RowsSaid.{AreAt, ArePlaced, AreSums}
use Rattle.nms_calls.specs.ViewSaid.{IsOfLook, IsSideSaid, IsViewSaid}
use Rattle.nms_calls.specs.declared.row_numbers.NmsRows.{NmsRows}
use Rattle.nms_calls.specs.declared.row_numbers.NmsView.{NmsView}

pub no_row : Row
no_row = record { price = 0; receipt = 0; size = 0; part = 0; protected = false }

-- ---- rows one after another

pub placed_none : (numbers : NmsRows) → ArePlaced numbers []
placed_none numbers place d within = absurd (omega arith)

-- one row more
pub placed_push : (numbers : NmsRows) (rows : List Row) (row : Row) → ArePlaced numbers rows
    → IsRowAt numbers (length rows) (some_row row) → ArePlaced numbers (rows ++ row ∷ [])
placed_push numbers rows row are last place d within =
    let long = length_push rows row in
    elim (cases_lt place (length rows)) [
      | inl before ↦
          subst (λ r. IsRowAt numbers place (some_row r)) (sym (get_or_append_left rows (row ∷ []) d place before)) (are place d before)
      | inr at_end ↦
          let e : place ≡ length rows = omega (arith, long, within, at_end) in
          subst (λ r. IsRowAt numbers place (some_row r)) (sym (get_or_push rows row d place (sym e)))
          (subst (λ k. IsRowAt numbers k (some_row row)) (sym e) last)
    ]

-- ---- the arrays say one list of rows

flags : (one other : Bool) → flag one ≡ flag other → one ≡ other
flags true true e = refl
flags true false e = absurd (omega (arith, e))
flags false true e = absurd (omega (arith, e))
flags false false e = refl

number : (x y : ℕ) → Some x ≡ Some y → x ≡ y
number x y e = ap (λ (found : Option ℕ). unwrap_or found 0) e

row_once : (numbers : NmsRows) (place : ℕ) (row other : Row) → IsRowAt numbers place (some_row row)
    → IsRowAt numbers place (some_row other) → row ≡ other
row_once numbers place row other is also =
    let price : row.price ≡ other.price = number row.price other.price (sym is.price ∙ also.price) in
    let receipt : row.receipt ≡ other.receipt = number row.receipt other.receipt (sym is.receipt ∙ also.receipt) in
    let size : row.size ≡ other.size = number row.size other.size (sym is.size ∙ also.size) in
    let part : row.part ≡ other.part = number row.part other.part (sym is.part ∙ also.part) in
    let protected : row.protected ≡ other.protected =
    flags row.protected other.protected
    (number (flag row.protected) (flag other.protected) (sym is.is_protected ∙ also.is_protected)) in
    λ i. record { price = price i; receipt = receipt i; size = size i; part = part i; protected = protected i }

rows_once : (parts version : ℕ) (numbers : NmsRows) (rows others : List Row) → AreAt parts version numbers rows
    → AreAt parts version numbers others → rows ≡ others
rows_once parts version numbers rows others at also =
    let long : length rows ≡ length others = sym at.count ∙ also.count in
    ext_get_or no_row rows others long (λ place within.
    row_once numbers place (get_or rows place no_row) (get_or others place no_row) (at.placed place no_row within)
    (also.placed place no_row (omega (arith, within, long))))

-- ---- a side that they say, and its rank order

pub order_said : (side : Side) (parts version : ℕ) (rows : List Row) (numbers : NmsRows) → IsSideSaid side parts version rows numbers
    → AreAt parts version numbers (ranked side rows)
order_said side parts version rows numbers said =
    let is : IsRankOrder side rows (ranked side rows) = rows_in_order side rows said.shown in
    let order = order_of side rows (ranked side rows) is in let long = long_as side rows (ranked side rows) order in
    record {
      few = omega (arith, said.few, long);
      count = said.count ∙ sym long;
      each = All-permutation (IsOfLook parts version) rows (ranked side rows) is.same said.each;
      placed = λ place d within.
          let at = ranked_at_is side rows (ranked side rows) place order ∙ slice_get-get_or (ranked side rows) place d within in
          subst (λ found. IsRowAt numbers place (row_numbers found)) at (said.places place (omega (arith, within, long)));
    }

pub side_said : (side : Side) (parts version : ℕ) (rows in_order : List Row) (numbers : NmsRows) → AreRows rows
    → IsRankOrder side rows in_order → AreAt parts version numbers in_order → numbers.total ≡ total_size rows
    → IsSideSaid side parts version rows numbers
side_said side parts version rows in_order numbers shown is at total =
    let order = order_of side rows in_order is in let long = long_as side rows in_order order in
    record {
      shown = shown;
      each = All-permutation (IsOfLook parts version) in_order rows (IsPermutation-sym rows in_order is.same) at.each;
      few = omega (arith, at.few, long);
      count = at.count ∙ long;
      total = total;
      places = λ place within.
          let below : place < length in_order = omega (arith, within, long) in
          let there = ranked_at_is side rows in_order place order ∙ slice_get-get_or in_order place no_row below in
          subst (λ found. IsRowAt numbers place (row_numbers found)) (sym there) (at.placed place no_row below);
    }

-- the rows in the arrays' order are the rank order of the side that the arrays say
pub is_order : (side : Side) (parts version : ℕ) (rows in_order : List Row) (numbers : NmsRows)
    → IsSideSaid side parts version rows numbers → AreAt parts version numbers in_order → IsRankOrder side rows in_order
is_order side parts version rows in_order numbers said at =
    subst (IsRankOrder side rows) (rows_once parts version numbers (ranked side rows) in_order
    (order_said side parts version rows numbers said) at) (rows_in_order side rows said.shown)

-- ---- a view that they say

-- a side that they say, in their own version
pub side_in : (side : Side) (parts : ℕ) (seen : Seen) (numbers : NmsView) (rows : List Row) (arrays : NmsRows)
    → IsViewSaid parts seen numbers → IsSideSaid side parts seen.version rows arrays → IsSideSaid side parts numbers.version rows arrays
side_in side parts seen numbers rows arrays said = subst (λ version. IsSideSaid side parts version rows arrays) (sym said.version)

pub view_said : (parts symbol : ℕ) (seen : Seen) (bids offers : List Row) (numbers : NmsView)
    → (seen.version ≡ numbers.version) × (seen.sym ≡ symbol) → (numbers.sym < MOST_SYMBOLS) × (symbol ≡ numbers.sym)
    → AreRows seen.bids × AreRows seen.offers → IsRankOrder Bid seen.bids bids → IsRankOrder Offer seen.offers offers
    → AreAt parts numbers.version numbers.bid bids → AreAt parts numbers.version numbers.offer offers → AreSums numbers seen
    → IsViewSaid parts seen numbers
view_said parts symbol seen bids offers numbers look place shown bid offer at_bid at_offer sums = record {
  version = sym look.0;
  of_sym = sym (look.1 ∙ place.1);
  sym_within = omega (arith, place.0, look.1, place.1);
  bids = subst (λ version. IsSideSaid Bid parts version seen.bids numbers.bid) (sym look.0)
      (side_said Bid parts numbers.version seen.bids bids numbers.bid shown.0 bid at_bid sums.bids);
  offers = subst (λ version. IsSideSaid Offer parts version seen.offers numbers.offer) (sym look.0)
      (side_said Offer parts numbers.version seen.offers offers numbers.offer shown.1 offer at_offer sums.offers);
  market = sums.market;
}

-- the sums of the view that they say are those of the view with its rank orders
pub sums_said : (parts : ℕ) (seen made : Seen) (bids offers : List Row) (numbers : NmsView) → IsViewSaid parts seen numbers
    → AreRows made.bids × AreRows made.offers → IsRankOrder Bid made.bids bids → IsRankOrder Offer made.offers offers
    → AreAt parts numbers.version numbers.bid bids → AreAt parts numbers.version numbers.offer offers → AreSums numbers made
sums_said parts seen made bids offers numbers said shown bid offer at_bid at_offer =
    let of_bids = side_in Bid parts seen numbers seen.bids numbers.bid said said.bids in
    let of_offers = side_in Offer parts seen numbers seen.offers numbers.offer said said.offers in
    let one : seen.bids ≡ made.bids = one_side Bid seen.bids made.bids bids said.bids.shown shown.0
    (is_order Bid parts numbers.version seen.bids bids numbers.bid of_bids at_bid) bid in
    let other : seen.offers ≡ made.offers = one_side Offer seen.offers made.offers offers said.offers.shown shown.1
    (is_order Offer parts numbers.version seen.offers offers numbers.offer of_offers at_offer) offer in
    record {
      bids = subst (λ rows. numbers.bid.total ≡ total_size rows) one said.bids.total;
      offers = subst (λ rows. numbers.offer.total ≡ total_size rows) other said.offers.total;
      market = subst (λ rows. numbers.market ≡ market_between made.bids rows) other
          (subst (λ rows. numbers.market ≡ market_between rows seen.offers) one said.market);
    }
