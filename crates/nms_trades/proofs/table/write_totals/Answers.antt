-- `write_totals`: the keys and the word are printable.
use Rattle.std.proofs.Common.{refl}
use Rattle.nms_trades.proofs.table.write_totals.Goals as goal

pub object-requires : goal.object-requires
object-requires c = record { plain = rw (c.rate_of.ensures, c.money_of.ensures, c.money_of-2.ensures) refl }
