-- `write_price`: a price's text is printable, and if there is none, nothing is written.
use Rattle.std.proofs.Common.{refl}
use Rattle.nms_units.specs.Price.{price_text}
use Rattle.nms_show.specs.Safe.{IsPrintable, no_text}
use Rattle.nms_show.proofs.SafeFacts.{printable_price}
use Rattle.nms_show.proofs.WriteFacts.{adds_none}
use Rattle.nms_show.proofs.item.write_price.Goals as goal

pub write_number-requires : goal.write_number-requires
write_number-requires g c = (price_text c.in-Some.price, refl, printable_price c.in-Some.price)

pub returns-in-None : goal.returns-in-None
returns-in-None g c = adds_none IsPrintable (g.W.Write.contents c.args.answers.now) no_text
