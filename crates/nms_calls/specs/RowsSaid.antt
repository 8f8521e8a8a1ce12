-- The rows that the arrays of a side say, in the arrays' order. This product's own rule.
use Rattle.std.specs.Prelude.{◌≡◌, ◌<◌, ◌≤◌, ℕ, All, List, get_or, length}
use Rattle.nms_board.specs.Ranking.{total_size}
use Rattle.nms_board.specs.View.{Seen}
use Rattle.nms_board.specs.declared.TheConstants.{MOST_ROWS}
use Rattle.nms_board.specs.declared.row.Row.{Row}
use Rattle.nms_calls.specs.RowNumbers.{IsRowAt, market_between, some_row}
use Rattle.nms_calls.specs.ViewSaid.{IsOfLook}
use Rattle.nms_calls.specs.declared.row_numbers.NmsRows.{NmsRows}
use Rattle.nms_calls.specs.declared.row_numbers.NmsView.{NmsView}

-- the first places have these rows
abbrev pub ArePlaced : NmsRows → List Row → Type 0
ArePlaced numbers rows = (place : ℕ) (d : Row) → place < length rows → IsRowAt numbers place (some_row (get_or rows place d))

-- the arrays say these rows and no more, each of a look
pub record AreAt (parts version : ℕ) (numbers : NmsRows) (rows : List Row) : Type 0 where
  pub few : length rows ≤ MOST_ROWS
  pub count : numbers.count ≡ length rows
  pub each : All (IsOfLook parts version) rows
  pub placed : ArePlaced numbers rows

-- the sums and the state of the market are those of the rows
pub record AreSums (numbers : NmsView) (seen : Seen) : Type 0 where
  pub bids : numbers.bid.total ≡ total_size seen.bids
  pub offers : numbers.offer.total ≡ total_size seen.offers
  pub market : numbers.market ≡ market_between seen.bids seen.offers
