-- What a board shows, read from its cells and not from the tape.
use Rattle.std.specs.Prelude.{ℕ, List, slice_get, slice_index, Option}
use Rattle.std.specs.List.{filter_map, range_with_len}
use Rattle.std.specs.Option.{option_and_then}
use Rattle.nms_quote.specs.declared.side_quote.Side.{Side}
use Rattle.nms_quote.specs.declared.side_quote.Side.TheVariants.{Bid, Offer}
use Rattle.nms_board.specs.History.{on_side}
use Rattle.nms_board.specs.Quotation.{quotation}
use Rattle.nms_board.specs.View.{Seen}
use Rattle.nms_board.specs.Cells.{Board, place_of}
use Rattle.nms_board.specs.declared.cell.Cell.{Cell}
use Rattle.nms_board.specs.declared.row.Row.{Row}

-- the quotation that a cell has on a side
abbrev pub row_of_cell : ℕ → ℕ → Side → Cell → Option Row
row_of_cell lot part side cell =
    quotation lot part cell.state (on_side side cell.bid cell.offer).receipt (on_side side cell.bid cell.offer).quote

-- the quotation of a participant's cell; no cell has none
abbrev pub row_held : Board → ℕ → Side → ℕ → Option Row
row_held board sym side part =
    option_and_then (row_of_cell (slice_index board.lots sym) part side) (slice_get board.cells (place_of part sym))

-- the quotations on a side of the symbol, by participant place
abbrev pub rows_held : Board → ℕ → Side → List Row
rows_held board sym side = filter_map (row_held board sym side) (range_with_len 0 board.sizes.parts)

-- what the cells show of a symbol
abbrev pub seen_on : Board → ℕ → Seen
seen_on board sym = record {
  version = board.applied;
  sym = sym;
  bids = rows_held board sym Bid;
  offers = rows_held board sym Offer;
}
