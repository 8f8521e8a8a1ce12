-- A view in which a side shows at most a given number of shares of each participant, as if orders had taken the others. This
-- product's own rule.
use Rattle.std.specs.Prelude.{◌≡◌, ◌==◌, ◌<◌, ℕ, min, slice_get, slice_index, IfOk, List, length, Option, Some, None, Result, Ok, Err}
use Rattle.std.specs.Prelude.{if◌then◌else◌}
use Rattle.std.specs.List.{filter_map}
use Rattle.nms_quote.specs.declared.side_quote.Side.{Side}
use Rattle.nms_quote.specs.declared.side_quote.Side.TheVariants.{Bid, Offer}
use Rattle.nms_board.specs.Ranking.{total_size}
use Rattle.nms_board.specs.View.{Seen}
use Rattle.nms_board.specs.declared.row.Row.{Row}
use Rattle.nms_calls.specs.Looked.{market_side_said}
use Rattle.nms_calls.specs.Opened.{error_of}
use Rattle.nms_calls.specs.RowNumbers.{AreRanked, IsRowAt, market_between, row_numbers}
use Rattle.nms_calls.specs.ViewSaid.{IsSaid}
use Rattle.nms_calls.specs.declared.call_fault.CallFault.{CallFault}
use Rattle.nms_calls.specs.declared.call_fault.CallFault.TheVariants as fault
use Rattle.nms_calls.specs.declared.row_numbers.NmsRows.{NmsRows}
use Rattle.nms_calls.specs.declared.row_numbers.NmsView.{NmsView}

-- ---- the view

-- the lesser of a row's size and its participant's number
abbrev pub reduced_size : List ℕ → Row → ℕ
reduced_size most row = min row.size (slice_index most row.part)

-- a row of that size, if any share is left. What is left may be less than a round lot: it stays a row, protected as it was
abbrev pub reduced_row : List ℕ → Row → Option Row
reduced_row most row = if reduced_size most row == 0 then None else Some (record row { size = reduced_size most row })

abbrev pub reduced_rows : List ℕ → List Row → List Row
reduced_rows most rows = filter_map (reduced_row most) rows

-- one side is reduced, the other side stays
abbrev pub reduced_view : Side → List ℕ → Seen → Seen
reduced_view Bid most seen = record seen { bids = reduced_rows most seen.bids }
reduced_view Offer most seen = record seen { offers = reduced_rows most seen.offers }

-- ---- a call

-- the reduced view of what numbers say: the view is checked first, then the side
abbrev pub reduced_of : Option Seen → Option Side → List ℕ → Result Seen CallFault
reduced_of None side most = Err fault.NoView
reduced_of (Some seen) None most = Err fault.Range
reduced_of (Some seen) (Some side) most = Ok (reduced_view side most seen)

-- all numbers of a view: each side in rank order, and 0 in the places after its last row
pub record AreOfView (seen : Seen) (out : NmsView) : Type 0 where
  pub version : out.version ≡ seen.version
  pub of_sym : out.sym ≡ seen.sym
  pub bids : AreRanked Bid seen.bids out.bid
  pub offers : AreRanked Offer seen.offers out.offer
  pub market : out.market ≡ market_between seen.bids seen.offers

-- what reducing numbers of a view answers and writes
pub record IsReduced (numbers : NmsView) (side : ℕ) (most : List ℕ) (told : Option CallFault) (out : NmsView) : Type 0 where
  pub view : Option Seen
  pub said : IsSaid 32 numbers view
  pub answer : told ≡ error_of (reduced_of view (market_side_said side) most)
  pub written : IfOk (reduced_of view (market_side_said side) most) (λ seen. AreOfView seen out)

-- ---- a side

-- the rows of a list in the list's order, with their total size; the places after the last are 0
pub record AreInOrder (rows : List Row) (out : NmsRows) : Type 0 where
  pub total_of : out.total ≡ total_size rows
  pub count_of : out.count ≡ length rows
  pub places : (place : ℕ) → place < 32 → IsRowAt out place (row_numbers (slice_get rows place))
