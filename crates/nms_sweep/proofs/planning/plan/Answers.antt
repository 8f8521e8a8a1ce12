-- plan: the rows of the view are its table, by what Cutoffs::new says, and all its clauses are what Made::set says of it.
use Rattle.nms_sweep.proofs.planning.plan.Goals as goal

pub set-requires-clause-table : goal.set-requires-clause-table
set-requires-clause-table c = (
  c.args.view.now,
  c.args.fees.now,
  record {
    version = c.version-version.ensures.version;
    sym = c.requires;
    bids = c.version-version.ensures.bids;
    offers = c.version-version.ensures.offers;
    rows = c.new-cutoffs.ensures.rows;
    ordered = c.new-cutoffs.ensures.ordered;
    cutoffs = c.new-cutoffs.ensures.cutoffs;
    all = c.new-cutoffs.ensures.all;
  },
)

pub returns : goal.returns
returns c =
    let is = c.set.ensures c.args.view.now c.args.fees.now (record {
      version = c.version-version.ensures.version;
      sym = c.requires;
      bids = c.version-version.ensures.bids;
      offers = c.version-version.ensures.offers;
      rows = c.new-cutoffs.ensures.rows;
      ordered = c.new-cutoffs.ensures.ordered;
      cutoffs = c.new-cutoffs.ensures.cutoffs;
      all = c.new-cutoffs.ensures.all;
    }) in
    record {
      lawful = is.lawful;
      most = is.most;
      accepted = is.accepted;
      optimal = is.optimal;
      ordered = is.ordered;
      filling = is.filling;
      exact = is.exact;
    }
