-- `Boards::shows_rows`: clauses `bids` and `offers`, by `rows_held_are_rows`.
use Rattle.std.proofs.Common.{subst}
use Rattle.nms_quote.specs.declared.side_quote.Side.TheVariants.{Bid, Offer}
use Rattle.nms_board.specs.Cells.{IsBoard}
use Rattle.nms_board.proofs.RowLemmas.{rows_held_are_rows}
use Rattle.nms_board.proofs.board.Boards.shows_rows.Goals as goal

pub returns : goal.returns
returns c =
    let is : IsBoard c.args.self.now = subst IsBoard c.self.view_is c.self.invariant.0 in
    record {
      bids = rows_held_are_rows c.args.self.now c.args.sym Bid is;
      offers = rows_held_are_rows c.args.self.now c.args.sym Offer is;
    }
