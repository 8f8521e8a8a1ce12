-- `tell_count`: the code is printable.
use Rattle.std.proofs.Common.{refl}
use Rattle.nms_explain.proofs.tally.tell_count.Goals as goal

pub object-requires : goal.object-requires
object-requires c = record { plain = rw c.text.ensures.plain refl }

pub line-requires : goal.line-requires
line-requires c = record { plain = rw c.text.ensures.plain refl }
