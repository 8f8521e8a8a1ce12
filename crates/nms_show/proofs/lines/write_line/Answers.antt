-- `write_line`: the items, and the end of the line.
use Rattle.nms_show.proofs.WriteFacts.{safe_writes}
use Rattle.nms_show.proofs.lines.write_line.Goals as goal

pub returns : goal.returns
returns g c = record { safe = λ own. safe_writes c.end_line.result _ _ _ (c.in_ok-write_items.ensures own) c.end_line.ensures }
