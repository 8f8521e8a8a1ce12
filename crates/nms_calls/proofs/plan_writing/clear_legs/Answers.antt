-- `clear_legs`: one more place is free, by WrittenLemmas.
use Rattle.std.proofs.Common.{◌∙◌, arith}
use Rattle.std.proofs.lemmas.List.{length-set, take-set-le}
use Rattle.nms_calls.specs.PlanNumbers.{no_leg}
use Rattle.nms_calls.proofs.WrittenLemmas.{one_cleared}
use Rattle.nms_calls.proofs.plan_writing.clear_legs.Goals as goal

pub loop-place-preserved : goal.loop-place-preserved
loop-place-preserved c =
    let is = c.loop-place.invariant in
    let places = c.loop-place.places in
    let place = c.loop-place.place in
    record {
      from = omega (arith, is.from);
      count = length-set places place no_leg ∙ is.count;
      before = take-set-le c.args.count places place no_leg (omega (arith, is.from)) ∙ is.before;
      behind = one_cleared places place no_leg c.args.count (omega (arith, is.count, c.loop-place-test.true)) is.behind;
    }
