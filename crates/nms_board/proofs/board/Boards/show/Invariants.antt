-- `Boards::show`: what holds in each turn of its loop: `place`, `bids` and `offers`.
use Rattle.std.proofs.Common.{◌≡◌}
use Rattle.std.specs.List.{filter_map, range_with_len}
use Rattle.nms_quote.specs.declared.side_quote.Side.TheVariants.{Bid, Offer}
use Rattle.nms_board.specs.Shown.{row_held}
use Rattle.nms_board.proofs.board.Boards.show.Given as goal

-- the rows of the participants so far
abbrev pub invariant-loop-cell : goal.invariant-loop-cell
invariant-loop-cell l = record {
  place : l.place ≡ l.cell-index;
  bids : l.bids.items ≡ filter_map (row_held l.self l.fn.sym Bid) (range_with_len 0 l.place);
  offers : l.offers.items ≡ filter_map (row_held l.self l.fn.sym Offer) (range_with_len 0 l.place);
}
