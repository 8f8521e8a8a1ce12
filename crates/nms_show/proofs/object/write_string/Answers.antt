-- `write_string`: a string of JSON is printable if its text is.
use Rattle.nms_show.proofs.SafeFacts.{printable_string}
use Rattle.nms_show.proofs.object.write_string.Goals as goal

pub returns-in-Ok-clause-printable : goal.returns-in-Ok-clause-printable
returns-in-Ok-clause-printable c = λ text. record { text = _; kind = printable_string text; written = c.in-Ok.ensures }
