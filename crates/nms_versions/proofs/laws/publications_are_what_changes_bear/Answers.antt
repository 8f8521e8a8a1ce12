-- `publications_are_what_changes_bear`: clauses `these` and `once`, by `rising` and `these`.
use Rattle.nms_versions.proofs.LawLemmas.{rising, these}
use Rattle.nms_versions.proofs.laws.publications_are_what_changes_bear.Goals as goal

pub returns-clause-these : goal.returns-clause-these
returns-clause-these c = these

pub returns-clause-once : goal.returns-clause-once
returns-clause-once c = rising
