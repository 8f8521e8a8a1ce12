-- `write_other`: the keys and the word are printable.
use Rattle.std.proofs.Common.{refl}
use Rattle.nms_trades.proofs.object.write_other.Goals as goal

pub returns : goal.returns
returns g c = c.show_object.ensures refl
