-- `write_rest`: two printable texts in turn.
use Rattle.nms_show.proofs.WriteFacts.{printable_writes}
use Rattle.nms_show.proofs.under.write_rest.Goals as goal

pub returns : goal.returns
returns g c = printable_writes c.write_own.result _ _ _ c.in_ok-write_shown.ensures (c.write_own.ensures c.requires.after)
