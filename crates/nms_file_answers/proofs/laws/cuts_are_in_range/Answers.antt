-- `cuts_are_in_range`: all that it promises and the turns of its loop, by `all_more`.
use Rattle.std.proofs.Common.{arith, subst}
use Rattle.std.specs.Prelude.{All}
use Rattle.std.proofs.lemmas.List.{take_all}
use Rattle.nms_quote.specs.declared.certificate.Cut.{Cut}
use Rattle.nms_lines.specs.PlanLaws.{IsPriceInRange}
use Rattle.nms_file_answers.proofs.FitFacts.{all_more}
use Rattle.nms_file_answers.proofs.laws.cuts_are_in_range.Goals as goal

InRange : Cut → Type 0
InRange cut = IsPriceInRange cut.price

pub loop-cut-preserved : goal.loop-cut-preserved
unfolding InRange
loop-cut-preserved c =
    all_more InRange c.args.cuts.now c.loop-cut.cut-index c.cut-item.result c.loop-cut-test.true c.cut-item.is c.loop-cut.invariant
    (omega (arith, c.get.ensures.low, c.get.ensures.number), omega (arith, c.get.ensures.high, c.get.ensures.number))

pub returns : goal.returns
unfolding InRange
returns c = subst (All InRange) (take_all c.loop-cut.cut-index c.args.cuts.now (omega (arith, c.loop-cut-test.false))) c.loop-cut.invariant
