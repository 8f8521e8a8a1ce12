-- `tell_unformed`: what the writer took of the line is a prefix of a safe text.
use Rattle.std.proofs.Common.{refl}
use Rattle.nms_show.specs.Safe.{IsSafe, nothing}
use Rattle.nms_show.proofs.Offered.{adds_no_part}
use Rattle.nms_import.proofs.telling.Told.tell_unformed.Goals as goal

pub returns-then-self-eq0-clause-safe : goal.returns-then-self-eq0-clause-safe
returns-then-self-eq0-clause-safe g c = adds_no_part IsSafe _ nothing

pub returns-clause-safe : goal.returns-clause-safe
returns-clause-safe g c = c.show_row.ensures.safe c.outcome_of.ensures refl

pub returns-then-is_json-clause-safe : goal.returns-then-is_json-clause-safe
returns-then-is_json-clause-safe g c = adds_no_part IsSafe _ nothing
