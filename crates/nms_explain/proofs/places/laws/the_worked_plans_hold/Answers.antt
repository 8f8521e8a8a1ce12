-- `the_worked_plans_hold`: all that it promises, computed.
use Rattle.std.proofs.Common.{refl}
use Rattle.nms_explain.specs.PlanExamples.{ExamplesHold}
use Rattle.nms_explain.specs.PlanOrder.{from_cut, troubles_after}
use Rattle.nms_explain.proofs.places.laws.the_worked_plans_hold.Goals as goal

examples : ExamplesHold
unfolding from_cut troubles_after
examples = record {
  leg_due = refl;
  cut_due = refl;
  nothing_due = refl;
  two_legs = refl;
  one_cut = refl;
  right = refl;
  after_cut = refl;
  one_too_many = refl;
  one_wrong = refl;
}

pub returns : goal.returns
returns c = examples
