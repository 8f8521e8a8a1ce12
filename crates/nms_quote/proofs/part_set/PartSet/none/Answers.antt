-- `PartSet::none`: no participant is in it, by `has-nobody`.
use Rattle.nms_quote.proofs.MemberLemmas.{has-nobody}
use Rattle.nms_quote.proofs.part_set.PartSet.none.Goals as goal

pub returns-clause-members : goal.returns-clause-members
returns-clause-members c = has-nobody
