-- `write_span`: nothing, or a line whose texts are printable.
use Rattle.std.proofs.Common.{refl}
use Rattle.nms_show.specs.Safe.{IsSafe, nothing}
use Rattle.nms_show.proofs.Offered.{adds_none}
use Rattle.nms_import.proofs.telling.write_span.Goals as goal

pub returns-in_default : goal.returns-in_default
returns-in_default g c = adds_none IsSafe _ nothing

pub returns : goal.returns
returns g c = c.line.ensures (rw c.shown_name.ensures refl)
