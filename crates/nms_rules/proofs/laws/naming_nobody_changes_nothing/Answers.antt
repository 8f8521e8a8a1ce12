-- `naming_nobody_changes_nothing`: the law, by `nobody_named`.
use Rattle.nms_rules.proofs.NamedLemmas.{nobody_named}
use Rattle.nms_rules.proofs.laws.naming_nobody_changes_nothing.Goals as goal

pub returns : goal.returns
returns c = nobody_named
