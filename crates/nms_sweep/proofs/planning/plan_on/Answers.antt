-- plan_on: what the board shows of the order's symbol is the table, by what set_on says.
use Rattle.std.proofs.Common.{refl, subst}
use Rattle.nms_quote.specs.Terms.{Terms}
use Rattle.nms_quote.specs.declared.side_quote.Side.TheVariants.{Bid, Offer}
use Rattle.nms_board.specs.Shown.{rows_held, seen_on}
use Rattle.nms_board.specs.View.{AreRows}
use Rattle.nms_sweep.proofs.planning.plan_on.Goals as goal

pub fill-requires-clause-table : goal.fill-requires-clause-table
fill-requires-clause-table g c = (
  seen_on c.args.board.now c.args.order.now.sym,
  c.args.fees.now,
  record {
    version = c.applied-version.ensures.count;
    sym = refl;
    bids = subst (λ (one : Terms). AreRows (rows_held c.args.board.now one.sym Bid)) c.order.view_is c.shows_rows.ensures.bids;
    offers = subst (λ (one : Terms). AreRows (rows_held c.args.board.now one.sym Offer)) c.order.view_is c.shows_rows.ensures.offers;
    rows = c.set_on.ensures.rows;
    ordered = c.set_on.ensures.ordered;
    cutoffs = c.set_on.ensures.cutoffs;
    all = c.set_on.ensures.all;
  },
)

pub returns-clause-planned : goal.returns-clause-planned
returns-clause-planned g c =
    c.fill.ensures.planned (seen_on c.args.board.now c.args.order.now.sym) c.args.fees.now (record {
      version = c.applied-version.ensures.count;
      sym = refl;
      bids = subst (λ (one : Terms). AreRows (rows_held c.args.board.now one.sym Bid)) c.order.view_is c.shows_rows.ensures.bids;
      offers = subst (λ (one : Terms). AreRows (rows_held c.args.board.now one.sym Offer)) c.order.view_is c.shows_rows.ensures.offers;
      rows = c.set_on.ensures.rows;
      ordered = c.set_on.ensures.ordered;
      cutoffs = c.set_on.ensures.cutoffs;
      all = c.set_on.ensures.all;
    })
