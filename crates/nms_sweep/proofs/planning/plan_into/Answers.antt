-- plan_into: the rows of the view are its table, by what Cutoffs::new says.
use Rattle.nms_sweep.proofs.planning.plan_into.Goals as goal

pub fill-requires-clause-table : goal.fill-requires-clause-table
fill-requires-clause-table g c = (
  c.args.view.now,
  c.args.fees.now,
  record {
    version = c.version-version.ensures.version;
    sym = c.requires;
    bids = c.version-version.ensures.bids;
    offers = c.version-version.ensures.offers;
    rows = c.new-cutoffs.ensures.rows;
    ordered = c.new-cutoffs.ensures.ordered;
    cutoffs = c.new-cutoffs.ensures.cutoffs;
    all = c.new-cutoffs.ensures.all;
  },
)

pub returns-clause-planned : goal.returns-clause-planned
returns-clause-planned g c =
    c.fill.ensures.planned c.args.view.now c.args.fees.now (record {
      version = c.version-version.ensures.version;
      sym = c.requires;
      bids = c.version-version.ensures.bids;
      offers = c.version-version.ensures.offers;
      rows = c.new-cutoffs.ensures.rows;
      ordered = c.new-cutoffs.ensures.ordered;
      cutoffs = c.new-cutoffs.ensures.cutoffs;
      all = c.new-cutoffs.ensures.all;
    })
