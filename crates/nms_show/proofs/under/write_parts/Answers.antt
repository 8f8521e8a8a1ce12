-- `write_parts`: two printable texts in turn.
use Rattle.nms_show.proofs.WriteFacts.{printable_writes}
use Rattle.nms_show.proofs.under.write_parts.Goals as goal

pub returns : goal.returns
returns g c = printable_writes c.write_rest.result _ _ _ c.in_ok-write_lead.ensures c.write_rest.ensures
