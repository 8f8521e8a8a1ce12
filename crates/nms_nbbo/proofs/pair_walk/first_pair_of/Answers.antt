-- `first_pair_of`: all that it promises and the turns of its loop, by `IsFirstPair-among_offers`,
-- `NoPair-all_offers`, `NoPair-more_offer` and `NoPair-past_last`.
use Rattle.std.proofs.Common.{[], ◌∷◌, rules}
use Rattle.nms_nbbo.proofs.WalkLemmas.{IsFirstPair-among_offers, NoPair-all_offers, NoPair-more_offer, NoPair-past_last}
use Rattle.nms_nbbo.proofs.pair_walk.first_pair_of.Goals as goal

pub returns-then-lt : goal.returns-then-lt
returns-then-lt c = NoPair-past_last _ c.in_ok-last.last.now _ _ _ c.requires (search rules) (search rules) (search rules)

pub returns-in-Some : goal.returns-in-Some
returns-in-Some c =
    IsFirstPair-among_offers _ c.offer-item.result _ _ _ _ c.requires c.loop-offer-test.true c.offer-item.is c.loop-offer.invariant
    c.in-Some.ensures

pub loop-offer-preserved : goal.loop-offer-preserved
loop-offer-preserved c =
    NoPair-more_offer (c.args.bid.now ∷ []) _ _ c.args.from 1024 c.offer-item.result c.loop-offer-test.true c.offer-item.is
    c.loop-offer.invariant c.in_default.ensures

pub returns : goal.returns
returns c = NoPair-all_offers (c.args.bid.now ∷ []) _ _ c.args.from 1024 c.loop-offer-test.false c.loop-offer.invariant
