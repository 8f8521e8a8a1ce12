-- `PartSet::has`: the digit that is tested, by `has-shifted`.
use Rattle.nms_quote.proofs.MemberLemmas.{has-shifted}
use Rattle.nms_quote.proofs.part_set.PartSet.has.Goals as goal

pub returns : goal.returns
returns c = rw (c.get.ensures.place, ← c.self.view_is) (has-shifted c.self.inside.mask c.args.part)
