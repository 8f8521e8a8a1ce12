-- `first_pair_of`: what holds in each turn of its loop.
use Rattle.std.proofs.Common.{[], ◌∷◌, take}
use Rattle.nms_nbbo.specs.Walk.{NoPair}
use Rattle.nms_nbbo.proofs.pair_walk.first_pair_of.Given as goal

abbrev pub invariant-loop-offer : goal.invariant-loop-offer
invariant-loop-offer l = NoPair (l.bid ∷ []) (take l.offer-index l.offers) l.from 1024
