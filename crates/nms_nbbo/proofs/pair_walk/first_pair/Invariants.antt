-- `first_pair`: what holds in each turn of its loop.
use Rattle.std.proofs.Common.{take}
use Rattle.nms_nbbo.specs.Walk.{NoPair}
use Rattle.nms_nbbo.proofs.pair_walk.first_pair.Given as goal

abbrev pub invariant-loop-bid : goal.invariant-loop-bid
invariant-loop-bid l = NoPair (take l.bid-index l.bids) l.offers l.from 1024
