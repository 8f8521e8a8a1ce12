-- `next_pair`: clause `pairs`, by `pairs_from-first` and `pairs_from-none`.
use Rattle.nms_nbbo.proofs.PairLemmas.{pairs_from-first, pairs_from-none}
use Rattle.nms_nbbo.proofs.pair_walk.next_pair.Goals as goal

pub returns-in_err-pair-clause-pairs : goal.returns-in_err-pair-clause-pairs
returns-in_err-pair-clause-pairs c =
    rw c.from_residual.ensures (pairs_from-none c.args.view.now c.args.from
    (rw c.rows-bids.ensures.rows at (rw c.rows-offers.ensures.rows at c.in_err-pair.ensures)))

pub returns-clause-pairs : goal.returns-clause-pairs
returns-clause-pairs c =
    rw c.place_behind-behind.ensures (pairs_from-first c.args.view.now c.args.from c.in_ok-pair.pair
    (rw c.rows-bids.ensures.rows at c.rows-bids.ensures.rising)
    (rw c.rows-offers.ensures.rows at c.rows-offers.ensures.rising)
    (rw c.rows-bids.ensures.rows at (rw c.rows-offers.ensures.rows at c.in_ok-pair.ensures)))
