-- `write_row`: the columns, and the end of the line.
use Rattle.nms_show.proofs.WriteFacts.{safe_writes}
use Rattle.nms_show.proofs.lines.write_row.Goals as goal

pub returns : goal.returns
returns g c = record { safe = λ own. safe_writes c.end_line.result _ _ _ (c.in_ok-write_columns.ensures own) c.end_line.ensures }
