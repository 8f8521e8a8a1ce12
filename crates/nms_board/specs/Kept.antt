-- What a board keeps next to its cells of every symbol.
use Rattle.std.specs.Prelude.{ℕ, ◌≡◌, ◌+◌, ◌*◌, ◌<◌, List, [], length, slice_get, slice_index, slice_range, slice_set, Option, Some}
use Rattle.nms_quote.specs.Roster.{Sizes}
use Rattle.nms_quote.specs.declared.side_quote.Side.{Side}
use Rattle.nms_board.specs.declared.TheConstants.{MOST_ROWS}
use Rattle.nms_board.specs.History.{on_side}
use Rattle.nms_board.specs.Ranks.{AreOwn, IsKept, KeptOrder, ranks_of, row_among}
use Rattle.nms_board.specs.declared.cell.Cell.{Cell}
use Rattle.nms_board.specs.declared.row.Row.{Row}
use Rattle.nms_board.specs.declared.symbol_ranks.SymbolRanks.{SymbolRanks}

-- the cells of a symbol's participants
abbrev pub symbol_cells : ℕ → ℕ → List Cell → List Cell
symbol_cells parts sym cells = slice_range cells (MOST_ROWS * sym) (MOST_ROWS * sym + parts)

-- the quotation that they have of a participant, in lots of those sizes
abbrev pub row_shown : Sizes → List Cell → ℕ → Side → ℕ → Option Row
row_shown sizes cells sym side = row_among (slice_index sizes.lots sym) (symbol_cells sizes.parts sym cells) side

-- the order kept of a side
abbrev pub order_on : Side → SymbolRanks → KeptOrder
order_on side ranks = on_side side ranks.bids ranks.offers

-- the orders of a symbol with no rows
abbrev pub IsEmpty : SymbolRanks → Type 0
IsEmpty ranks = (side : Side) → order_on side ranks ≡ ranks_of side []

-- the orders kept of every symbol are those of its cells' quotations in lots of those sizes
pub record AreRanks (sizes : Sizes) (cells : List Cell) (ranks : List SymbolRanks) : Type 0 where
  pub symbols : length ranks ≡ length sizes.lots
  pub own : (sym : ℕ) (side : Side) → sym < length sizes.lots → AreOwn (row_shown sizes cells sym side)
  pub kept : (sym : ℕ) (orders : SymbolRanks) (side : Side) → slice_get ranks sym ≡ Some orders
      → IsKept side (row_shown sizes cells sym side) sizes.parts (order_on side orders)

-- the sizes with another lot of one symbol
abbrev pub with_lot : Sizes → ℕ → ℕ → Sizes
with_lot sizes sym lot = record sizes { lots = slice_set sizes.lots sym lot }
