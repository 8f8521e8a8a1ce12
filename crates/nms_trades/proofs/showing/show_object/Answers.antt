-- `show_object`: each key and each own text is printable.
use Rattle.nms_show.proofs.Offered.{plain_members}
use Rattle.nms_trades.proofs.showing.show_object.Goals as goal

pub returns : goal.returns
returns g c = λ own. c.write_object.ensures.safe (plain_members _ own)
