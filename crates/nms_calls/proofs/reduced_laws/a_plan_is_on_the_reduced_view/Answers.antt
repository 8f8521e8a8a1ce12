-- `a_plan_is_on_the_reduced_view`: by `plans_are_on`.
use Rattle.nms_calls.proofs.ReducedSaid.{plans_are_on}
use Rattle.nms_calls.proofs.reduced_laws.a_plan_is_on_the_reduced_view.Goals as goal

pub returns : goal.returns
returns c = plans_are_on
