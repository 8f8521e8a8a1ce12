-- `write_pairs_from`: all that it promises, the turns of its loop, the call of `write_pair` and a step on the
-- way, by `appends-none`, `all_pairs`, `first_pair_below`, `one_more_pair` and `place_below`.
use Rattle.std.proofs.Common.{[], refl, arith}
use Rattle.nms_text.specs.Report.{pair_line}
use Rattle.nms_text.proofs.PairFacts.{appends-none, all_pairs, first_pair_below, one_more_pair, place_below}
use Rattle.nms_text.proofs.report_text.write_pairs_from.Goals as goal

pub loop-pair-init : goal.loop-pair-init
loop-pair-init g c = record { done = []; written = appends-none (g.W.Write.contents c.args.writer.now); all = refl }

pub write_pair-requires-clause-bid : goal.write_pair-requires-clause-bid
write_pair-requires-clause-bid g c = (first_pair_below c.args.view.now _ c.loop-pair.place _ _ c.requires c.in-Some.ensures.pairs).bid

pub write_pair-requires-clause-offer : goal.write_pair-requires-clause-offer
write_pair-requires-clause-offer g c = (first_pair_below c.args.view.now _ c.loop-pair.place _ _ c.requires c.in-Some.ensures.pairs).offer

pub write_pair-requires-clause-later : goal.write_pair-requires-clause-later
write_pair-requires-clause-later g c = (first_pair_below c.args.view.now _ c.loop-pair.place _ _ c.requires c.in-Some.ensures.pairs).later

pub loop-pair-preserved : goal.loop-pair-preserved
loop-pair-preserved g c =
    one_more_pair (pair_line c.args.roster.now) _ _ _ c.args.view.now _ c.loop-pair.place c.in-Some.behind c.in-Some.pair
    c.loop-pair.invariant c.in-Some.ensures.pairs c.in_ok-write_pair.ensures

pub loop-pair-smaller : goal.loop-pair-smaller
loop-pair-smaller g c =
    omega (arith, place_below c.args.view.now c.loop-pair.place c.in-Some.pair _ c.in-Some.ensures.pairs, c.in-Some.ensures.higher)

pub returns : goal.returns
returns g c = all_pairs (pair_line c.args.roster.now) _ _ c.args.view.now _ c.loop-pair.place c.loop-pair.invariant
    c.in_default.ensures.pairs
