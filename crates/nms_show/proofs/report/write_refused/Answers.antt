-- `write_refused`: the place, and then the text with carets.
use Rattle.nms_show.proofs.WriteFacts.{safe_writes}
use Rattle.nms_show.proofs.report.write_refused.Goals as goal

pub returns : goal.returns
returns g c = record {
  safe = safe_writes c.write_under.result _ _ _ c.in_ok-write_place.ensures.safe c.write_under.ensures.safe;
}
