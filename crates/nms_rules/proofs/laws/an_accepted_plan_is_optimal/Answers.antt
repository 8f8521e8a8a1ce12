-- `an_accepted_plan_is_optimal`: all that it promises, by `accepted_optimal`.
use Rattle.nms_rules.proofs.OptimalLemmas.{accepted_optimal}
use Rattle.nms_rules.proofs.laws.an_accepted_plan_is_optimal.Goals as goal

pub returns : goal.returns
returns c = accepted_optimal
