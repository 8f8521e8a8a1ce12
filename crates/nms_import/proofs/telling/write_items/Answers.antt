-- `write_items`: items whose own texts are printable ASCII make a safe line, by `plain_items`.
use Rattle.nms_show.proofs.Offered.{plain_items}
use Rattle.nms_import.proofs.telling.write_items.Goals as goal

pub returns : goal.returns
returns g c = λ own. c.write_line.ensures.safe (plain_items c.args.items.now own)
