-- `write_row`: the keys and the words are printable.
use Rattle.std.proofs.Common.{refl}
use Rattle.nms_trades.proofs.ShownFacts.{plain_side}
use Rattle.nms_trades.proofs.object.write_row.Goals as goal

pub returns : goal.returns
returns g c =
    c.show_object.ensures (rw (c.word_of_side.ensures, plain_side c.args.side, c.of_price.ensures) refl)
