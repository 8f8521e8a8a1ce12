-- `PartSet::sets_are_their_members`: the law, by `sets-by-members`.
use Rattle.nms_quote.proofs.MemberLemmas.{sets-by-members}
use Rattle.nms_quote.proofs.part_set.PartSet.sets_are_their_members.Goals as goal

pub returns : goal.returns
returns c = sets-by-members
