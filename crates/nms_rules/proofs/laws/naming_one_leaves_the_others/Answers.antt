-- `naming_one_leaves_the_others`: the law, by `one_more_named`.
use Rattle.nms_rules.proofs.NamedLemmas.{one_more_named}
use Rattle.nms_rules.proofs.laws.naming_one_leaves_the_others.Goals as goal

pub returns : goal.returns
returns c = one_more_named
