-- `PartSet::with`: the set by `with-shifted`, who is in it by `has-with`.
use Rattle.std.proofs.Common.{◌∙◌, ap, ◌<◌}
use Rattle.nms_quote.specs.Members.{has_part}
use Rattle.nms_quote.proofs.MemberLemmas.{has-with, with-shifted}
use Rattle.nms_quote.proofs.part_set.PartSet.with.Goals as goal

pub returns-clause-set : goal.returns-clause-set
returns-clause-set c = rw (c.get.ensures.place, ← c.self.view_is) (with-shifted c.self.inside.mask c.args.part within)
  where
    within : c.args.part < 32
    within = rw (← c.get.ensures.place) c.get.ensures.below

pub returns-clause-members : goal.returns-clause-members
returns-clause-members c = λ place. ap (λ set. has_part set place) (returns-clause-set c) ∙ has-with c.args.self c.args.part place
