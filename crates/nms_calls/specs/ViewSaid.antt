-- The view that numbers say: what a look showed, if some look shows them. This product's own rule.
use Rattle.std.specs.Prelude.{◌≡◌, ◌<◌, ◌≤◌, ℕ, All, IfSome, List, length, Option}
use Rattle.std.specs.Option.{IsSome}
use Rattle.nms_units.specs.declared.TheConstants.{MOST_PRICE}
use Rattle.nms_quote.specs.declared.TheConstants.{MOST_SYMBOLS}
use Rattle.nms_quote.specs.declared.side_quote.Side.{Side}
use Rattle.nms_quote.specs.declared.side_quote.Side.TheVariants.{Bid, Offer}
use Rattle.nms_board.specs.Ranking.{ranked_at, total_size}
use Rattle.nms_board.specs.View.{AreRows, Seen}
use Rattle.nms_board.specs.declared.TheConstants.{MOST_ROWS}
use Rattle.nms_board.specs.declared.row.Row.{Row}
use Rattle.nms_calls.specs.RowNumbers.{IsRowAt, market_between, row_numbers}
use Rattle.nms_calls.specs.declared.row_numbers.NmsRows.{NmsRows}
use Rattle.nms_calls.specs.declared.row_numbers.NmsView.{NmsView}

-- a row of one of n participants, in a version: its price is a price, and its receipt is the number of a change applied
pub record IsOfLook (parts version : ℕ) (row : Row) : Type 0 where
  pub price_low : 1 ≤ row.price
  pub price_high : row.price ≤ MOST_PRICE
  pub part : row.part < parts
  pub receipt_low : 1 ≤ row.receipt
  pub receipt_high : row.receipt ≤ version

-- a side that a look can show, and the arrays say it: how many rows, their total size, and each row at its rank. The places
-- after the last are not read
pub record IsSideSaid (side : Side) (parts version : ℕ) (rows : List Row) (numbers : NmsRows) : Type 0 where
  pub shown : AreRows rows
  pub each : All (IsOfLook parts version) rows
  pub few : length rows ≤ MOST_ROWS
  pub count : numbers.count ≡ length rows
  pub total : numbers.total ≡ total_size rows
  pub places : (place : ℕ) → place < length rows → IsRowAt numbers place (row_numbers (ranked_at side rows place))

-- a view of n participants' rows, and the numbers say it
pub record IsViewSaid (parts : ℕ) (seen : Seen) (numbers : NmsView) : Type 0 where
  pub version : numbers.version ≡ seen.version
  pub of_sym : numbers.sym ≡ seen.sym
  pub sym_within : seen.sym < MOST_SYMBOLS
  pub bids : IsSideSaid Bid parts seen.version seen.bids numbers.bid
  pub offers : IsSideSaid Offer parts seen.version seen.offers numbers.offer
  pub market : numbers.market ≡ market_between seen.bids seen.offers

-- the view that the numbers say, or that they say none
pub record IsSaid (parts : ℕ) (numbers : NmsView) (said : Option Seen) : Type 0 where
  pub view : IfSome said (λ seen. IsViewSaid parts seen numbers)
  pub all : (seen : Seen) → IsViewSaid parts seen numbers → IsSome said
