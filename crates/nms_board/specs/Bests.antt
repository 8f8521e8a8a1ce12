-- The best rows that a board keeps of every symbol next to its rank orders, so that a look at them reads nothing else. This
-- product's own rule.
use Rattle.std.specs.Prelude.{ℕ, ◌≡◌, ◌≢◌, ◌==◌, List, length, slice_get, Option, Some, None, if◌then◌else◌}
use Rattle.std.specs.Option.{option_and_then}
use Rattle.nms_quote.specs.Roster.{Sizes}
use Rattle.nms_quote.specs.declared.side_quote.Side.{Side}
use Rattle.nms_board.specs.History.{on_side}
use Rattle.nms_board.specs.Kept.{order_on, row_shown}
use Rattle.nms_board.specs.Ranks.{KeptOrder}
use Rattle.nms_board.specs.declared.cell.Cell.{Cell}
use Rattle.nms_board.specs.declared.row.Row.{Row}
use Rattle.nms_board.specs.declared.symbol_best.SymbolBest.{SymbolBest}
use Rattle.nms_board.specs.declared.symbol_ranks.SymbolRanks.{SymbolRanks}

-- a row, if it is of any shares
abbrev pub row_if_any : Row → Option Row
row_if_any row = if row.size == 0 then None else Some row

-- the best row kept of a side
abbrev pub best_on : Side → SymbolBest → Option Row
best_on side best = row_if_any (on_side side best.bid best.offer)

-- no row is kept of either side
abbrev pub HasNone : SymbolBest → Type 0
HasNone best = (side : Side) → best_on side best ≡ None

-- the quotation of the first participant of an order
abbrev pub first_row : (ℕ → Option Row) → KeptOrder → Option Row
first_row quotes kept = option_and_then quotes (slice_get kept.places 0)

-- a row is the quotation of the participant at a place, unless that is the participant
abbrev pub IsUnlessOf : ℕ → (ℕ → Option Row) → ℕ → Option Row → Type 0
IsUnlessOf part quotes place best = place ≢ part → best ≡ quotes place

-- the best rows kept of every symbol are those of the first participants of its orders
pub record AreBests (sizes : Sizes) (cells : List Cell) (ranks : List SymbolRanks) (bests : List SymbolBest) : Type 0 where
  pub symbols : length bests ≡ length sizes.lots
  pub first : (sym : ℕ) (orders : SymbolRanks) (best : SymbolBest) (side : Side) → slice_get ranks sym ≡ Some orders
      → slice_get bests sym ≡ Some best → best_on side best ≡ first_row (row_shown sizes cells sym side) (order_on side orders)
