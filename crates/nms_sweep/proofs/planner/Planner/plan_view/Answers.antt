-- Planner::plan_view: the rows of the view are its table, by what Cutoffs::new says, and the plan is what Made::set says of it.
use Rattle.nms_sweep.proofs.planner.Planner.plan_view.Goals as goal

pub set-requires-clause-table : goal.set-requires-clause-table
set-requires-clause-table c = (
  c.args.view.now,
  c.args.fees.now,
  record {
    version = c.version-version.ensures.version;
    sym = c.requires;
    bids = c.version-version.ensures.bids;
    offers = c.version-version.ensures.offers;
    rows = c.new-cutoffs.ensures.rows;
    ordered = c.new-cutoffs.ensures.ordered;
    cutoffs = c.new-cutoffs.ensures.cutoffs;
    all = c.new-cutoffs.ensures.all;
  },
)

pub returns : goal.returns
returns c = record {
  planned = c.set.ensures c.args.view.now c.args.fees.now (record {
    version = c.version-version.ensures.version;
    sym = c.requires;
    bids = c.version-version.ensures.bids;
    offers = c.version-version.ensures.offers;
    rows = c.new-cutoffs.ensures.rows;
    ordered = c.new-cutoffs.ensures.ordered;
    cutoffs = c.new-cutoffs.ensures.cutoffs;
    all = c.new-cutoffs.ensures.all;
  });
}
