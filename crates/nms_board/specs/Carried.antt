-- What a view carries in addition to its rows, so that reading it ranks nothing: each side's rank order and sum of sizes, as
-- its board kept them. This product's own rule.
use Rattle.std.specs.Prelude.{◌≡◌, ◌*◌, ◌≤◌, List}
use Rattle.nms_quote.specs.declared.side_quote.Side.TheVariants.{Bid, Offer}
use Rattle.nms_board.specs.declared.TheConstants.{MOST_ROWS}
use Rattle.nms_board.specs.Ranks.{ranks_of}
use Rattle.nms_board.specs.declared.row.Row.{Row}
use Rattle.nms_board.specs.declared.symbol_ranks.SymbolRanks.{SymbolRanks}

-- the orders of those bids and offers
abbrev pub orders_of : List Row → List Row → SymbolRanks
orders_of bids offers = record { bids = ranks_of Bid bids; offers = ranks_of Offer offers }

-- the orders are those of the rows, and each sum is at most that of the same number of sizes of 32 bits
pub record AreCarried (bids offers : List Row) (orders : SymbolRanks) : Type 0 where
  pub same : orders_of bids offers ≡ orders
  pub bids_within : orders.bids.total ≤ MOST_ROWS * 4294967295
  pub offers_within : orders.offers.total ≤ MOST_ROWS * 4294967295
