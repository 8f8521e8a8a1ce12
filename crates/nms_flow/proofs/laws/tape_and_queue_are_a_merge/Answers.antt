-- `tape_and_queue_are_a_merge`: clauses `merge` and `belonging`, by `is_merge` and `belonging`.
use Rattle.nms_flow.proofs.LawLemmas.{is_merge, belonging}
use Rattle.nms_flow.proofs.laws.tape_and_queue_are_a_merge.Goals as goal

pub returns-clause-merge : goal.returns-clause-merge
returns-clause-merge c = is_merge

pub returns-clause-belonging : goal.returns-clause-belonging
returns-clause-belonging c = belonging
