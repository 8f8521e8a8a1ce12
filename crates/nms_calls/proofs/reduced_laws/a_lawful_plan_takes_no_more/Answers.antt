-- `a_lawful_plan_takes_no_more`: by `takes_no_more`.
use Rattle.nms_calls.proofs.TakenLemmas.{takes_no_more}
use Rattle.nms_calls.proofs.reduced_laws.a_lawful_plan_takes_no_more.Goals as goal

pub returns : goal.returns
returns c = takes_no_more
