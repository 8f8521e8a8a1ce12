-- `tell_fall`: what the writer took of the line is a prefix of a safe text.
use Rattle.std.proofs.Common.{refl}
use Rattle.nms_import.proofs.telling.Told.tell_fall.Goals as goal

pub returns-clause-safe : goal.returns-clause-safe
returns-clause-safe g c = c.show_row.ensures.safe refl refl
