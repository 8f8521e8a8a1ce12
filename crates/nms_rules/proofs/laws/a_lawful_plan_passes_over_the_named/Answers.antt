-- `a_lawful_plan_passes_over_the_named`: the law, by `passed_over`.
use Rattle.nms_rules.proofs.NamedLemmas.{passed_over}
use Rattle.nms_rules.proofs.laws.a_lawful_plan_passes_over_the_named.Goals as goal

pub returns : goal.returns
returns c = passed_over
