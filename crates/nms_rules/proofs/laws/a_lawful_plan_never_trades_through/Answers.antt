-- `a_lawful_plan_never_trades_through`: all that it promises, by `never_through`.
use Rattle.nms_rules.proofs.NeverLemmas.{never_through}
use Rattle.nms_rules.proofs.laws.a_lawful_plan_never_trades_through.Goals as goal

pub returns : goal.returns
returns c = never_through
