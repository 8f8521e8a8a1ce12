-- `counts_of`: each text is printable ASCII.
use Rattle.std.proofs.Common.{refl}
use Rattle.nms_import.proofs.telling.counts_of.Goals as goal

pub returns : goal.returns
returns c = rw (c.halves_are.ensures, c.kept_are.ensures) refl
