-- `tell_missing`: the code is printable.
use Rattle.std.proofs.Common.{refl}
use Rattle.nms_explain.proofs.refusal.tell_missing.Goals as goal

pub object-requires : goal.object-requires
object-requires c = record { plain = rw c.text.ensures.plain refl }

pub place-requires : goal.place-requires
place-requires c = record { code = c.text-2.ensures.plain; items = refl }
