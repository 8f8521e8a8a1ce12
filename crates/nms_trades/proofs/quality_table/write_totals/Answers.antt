-- `write_totals`: the keys and the word are printable.
use Rattle.std.proofs.Common.{refl}
use Rattle.nms_trades.proofs.quality_table.write_totals.Goals as goal

pub object-requires : goal.object-requires
object-requires c = record { plain = rw (c.average_of.ensures, c.average_of-2.ensures, c.dollars_of.ensures) refl }
