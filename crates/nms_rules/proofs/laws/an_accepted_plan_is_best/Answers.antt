-- `an_accepted_plan_is_best`: all that it promises, by `accepted_best`.
use Rattle.nms_rules.proofs.OptimalLemmas.{accepted_best}
use Rattle.nms_rules.proofs.laws.an_accepted_plan_is_best.Goals as goal

pub returns : goal.returns
returns c = accepted_best
