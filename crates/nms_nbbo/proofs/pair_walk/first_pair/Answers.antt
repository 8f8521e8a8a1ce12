-- `first_pair`: all that it promises and the turns of its loop, by `IsFirstPair-among_bids`, `NoPair-all_bids`
-- and `NoPair-more_bid`.
use Rattle.std.proofs.Common.{arith}
use Rattle.std.proofs.lemmas.Grind.{common_steps}
use Rattle.nms_nbbo.proofs.WalkLemmas.{IsFirstPair-among_bids, NoPair-all_bids, NoPair-more_bid}
use Rattle.nms_nbbo.proofs.pair_walk.first_pair.Goals as goal

pub returns-in-Some : goal.returns-in-Some
returns-in-Some c =
    IsFirstPair-among_bids c.bid-item.result _ _ _ _ _ c.requires.bids c.loop-bid-test.true c.bid-item.is c.loop-bid.invariant
    c.in-Some.ensures

pub loop-bid-preserved : goal.loop-bid-preserved
loop-bid-preserved c =
    NoPair-more_bid c.args.bids.now c.args.offers.now _ c.args.from 1024 c.bid-item.result c.loop-bid-test.true c.bid-item.is
    c.loop-bid.invariant c.in_default.ensures

pub returns : goal.returns
returns c = NoPair-all_bids c.args.bids.now c.args.offers.now _ c.args.from 1024 c.loop-bid-test.false c.loop-bid.invariant

-- ---- goals that `grind` closes; the search that is tried before it takes longer

pub first_pair_of-requires : goal.first_pair_of-requires
first_pair_of-requires c = grind (arith, common_steps)
