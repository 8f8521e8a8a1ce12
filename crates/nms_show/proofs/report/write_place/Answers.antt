-- `write_place`: the part before the items, and then the items.
use Rattle.nms_show.proofs.WriteFacts.{safe_writes}
use Rattle.nms_show.proofs.report.write_place.Goals as goal

pub returns : goal.returns
returns g c = record {
  safe = safe_writes c.write_plain_line.result _ _ _ c.in_ok-write_location.ensures.safe c.write_plain_line.ensures.safe;
}
