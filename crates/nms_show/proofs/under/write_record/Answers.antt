-- `write_record`: the record, and the end of its line.
use Rattle.nms_show.proofs.WriteFacts.{safe_writes}
use Rattle.nms_show.proofs.under.write_record.Goals as goal

pub returns : goal.returns
returns g c = safe_writes c.end_line.result _ _ _ c.in_ok-write_body.ensures c.end_line.ensures
