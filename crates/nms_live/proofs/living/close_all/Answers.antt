-- `close_all`: what it calls, from what all workers did.
use Rattle.std.proofs.Common.{arith}
use Rattle.std.proofs.lemmas.Grind.{common_steps}
use Rattle.nms_live.proofs.living.close_all.Goals as goal

pub close_desks-requires : goal.close_desks-requires
close_desks-requires g c =
    let done = c.requires.done in
    record { whole = done.whole; back = done.back; ended = done.ended; all = done.all }
