-- `write_body`: printable text is safe.
use Rattle.nms_show.proofs.WriteFacts.{safe_text}
use Rattle.nms_show.proofs.under.write_body.Goals as goal

pub returns : goal.returns
returns g c = safe_text c.write_parts.result _ _ c.write_parts.ensures
