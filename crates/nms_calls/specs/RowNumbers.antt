-- Rows of a board as numbers. This product's own rule.
use Rattle.std.specs.Prelude.{◌≡◌, ◌<◌, ◌*◌, ◌&&◌, ℕ, Bool, nat_lt, List, length, slice_get, slice_set, Option, Some, None, if◌then◌else◌}
use Rattle.std.specs.List.{filter}
use Rattle.nms_quote.specs.declared.side_quote.Side.{Side}
use Rattle.nms_quote.specs.declared.side_quote.Side.TheVariants.{Bid, Offer}
use Rattle.nms_board.specs.Ranking.{ranked_at, total_size}
use Rattle.nms_board.specs.Shown.{rows_held}
use Rattle.nms_board.specs.View.{Seen}
use Rattle.nms_board.specs.declared.row.Row.{Row}
use Rattle.nms_nbbo.specs.Best.{IsBestOf}
use Rattle.nms_nbbo.specs.Market.{market_of}
use Rattle.nms_nbbo.specs.declared.market_kind.Market.{Market}
use Rattle.nms_nbbo.specs.declared.market_kind.Market.TheVariants as market
use Rattle.nms_calls.specs.Opened.{Opened, seen_of, version}
use Rattle.nms_calls.specs.declared.row_numbers.NmsBest.{NmsBest}
use Rattle.nms_calls.specs.declared.row_numbers.NmsRow.{NmsRow}
use Rattle.nms_calls.specs.declared.row_numbers.NmsRows.{NmsRows}
use Rattle.nms_calls.specs.declared.row_numbers.NmsThrough.{NmsThrough}
use Rattle.nms_calls.specs.declared.row_numbers.NmsView.{NmsView}

abbrev pub no_row : NmsRow
no_row = record { price = 0; receipt = 0; size = 0; part = 0; is_protected = 0; spare = 0 }

abbrev pub flag : Bool → ℕ
flag holds = if holds then 1 else 0

abbrev pub some_row : Row → NmsRow
some_row row = record {
  price = row.price;
  receipt = row.receipt;
  size = row.size;
  part = row.part;
  is_protected = flag row.protected;
  spare = 0;
}

-- the numbers of a row, all 0 if there is none
abbrev pub row_numbers : Option Row → NmsRow
row_numbers None = no_row
row_numbers (Some row) = some_row row

abbrev pub market_number : Market → ℕ
market_number market.Empty = 0
market_number market.OneSided = 1
market_number market.Normal = 2
market_number market.Locked = 3
market_number market.Crossed = 4

-- the numbers of the best bid and the best offer in a symbol, with the version and the state of the market
pub record AreBest (opened : Opened) (sym : ℕ) (out : NmsBest) : Type 0 where
  pub bid : Option Row
  pub offer : Option Row
  pub best_bid : IsBestOf Bid (rows_held opened.board sym Bid) bid
  pub best_offer : IsBestOf Offer (rows_held opened.board sym Offer) offer
  pub numbers : out ≡ record {
    version = version opened;
    bid = row_numbers bid;
    offer = row_numbers offer;
    market = market_number (market_of bid offer);
    spare = 0;
  }

-- the numbers at a place of a side's arrays are those of a row
pub record IsRowAt (out : NmsRows) (place : ℕ) (row : NmsRow) : Type 0 where
  pub price : slice_get out.price place ≡ Some row.price
  pub receipt : slice_get out.receipt place ≡ Some row.receipt
  pub size : slice_get out.size place ≡ Some row.size
  pub part : slice_get out.part place ≡ Some row.part
  pub is_protected : slice_get out.is_protected place ≡ Some row.is_protected

-- arrays with the numbers of one row more
abbrev pub with_row : NmsRows → ℕ → NmsRow → NmsRows
with_row out place row = record {
  total = out.total;
  price = slice_set out.price place row.price;
  receipt = slice_set out.receipt place row.receipt;
  size = slice_set out.size place row.size;
  part = slice_set out.part place row.part;
  is_protected = slice_set out.is_protected place row.is_protected;
  count = out.count;
  spare = out.spare;
}

-- the rows of a side in rank order, with their total size; the places after the last are 0
pub record AreRanked (side : Side) (rows : List Row) (out : NmsRows) : Type 0 where
  pub total_of : out.total ≡ total_size rows
  pub count_of : out.count ≡ length rows
  pub places : (place : ℕ) → place < 32 → IsRowAt out place (row_numbers (ranked_at side rows place))

-- the state of the market between the best rows of two sides
abbrev pub market_between : List Row → List Row → ℕ
market_between bids offers = market_number (market_of (ranked_at Bid bids 0) (ranked_at Offer offers 0))

-- both sides of a symbol, with the version, the symbol and the state of the market
pub record IsView (opened : Opened) (sym : ℕ) (out : NmsView) : Type 0 where
  pub version_of : out.version ≡ version opened
  pub of_sym : out.sym ≡ sym
  pub bids : AreRanked Bid (rows_held opened.board sym Bid) out.bid
  pub offers : AreRanked Offer (rows_held opened.board sym Offer) out.offer
  pub market : out.market ≡ market_between (rows_held opened.board sym Bid) (rows_held opened.board sym Offer)

-- a price in 1/1,000,000 dollar is traded through by a protected bid above it, and by a protected offer below it
abbrev pub is_beyond : Side → ℕ → ℕ → Bool
is_beyond Bid millionths price = nat_lt millionths (price * 100)
is_beyond Offer millionths price = nat_lt (price * 100) millionths

abbrev pub is_through_at : Side → ℕ → Row → Bool
is_through_at side millionths row = row.protected && is_beyond side millionths row.price

abbrev pub through_at : Side → ℕ → List Row → List Row
through_at side millionths rows = filter (is_through_at side millionths) rows

-- the first places have these rows, and the others none
abbrev pub AreRowsAt : List NmsRow → List Row → Type 0
AreRowsAt places rows = (place : ℕ) → place < 32 → slice_get places place ≡ Some (row_numbers (slice_get rows place))

-- the quotations of a look that a price trades through
pub record AreThroughOn (seen : Seen) (millionths : ℕ) (out : NmsThrough) : Type 0 where
  pub version : out.version ≡ seen.version
  pub bids : out.bids ≡ length (through_at Bid millionths seen.bids)
  pub offers : out.offers ≡ length (through_at Offer millionths seen.offers)
  pub bid : AreRowsAt out.bid (through_at Bid millionths seen.bids)
  pub offer : AreRowsAt out.offer (through_at Offer millionths seen.offers)

-- those of a look at a symbol
abbrev pub AreThrough : Opened → ℕ → ℕ → NmsThrough → Type 0
AreThrough opened sym millionths out = AreThroughOn (seen_of opened sym) millionths out
