-- Made::set: what fill says of it.
use Rattle.nms_sweep.proofs.made.Made.set.Goals as goal

pub returns : goal.returns
returns c = λ seen fees walk. c.fill-outcome.ensures.planned seen fees walk
