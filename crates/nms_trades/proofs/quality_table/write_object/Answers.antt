-- `write_object`: the keys, the word and the name are printable.
use Rattle.std.proofs.Common.{refl}
use Rattle.nms_trades.proofs.quality_table.write_object.Goals as goal

pub object-requires : goal.object-requires
object-requires c = record {
  plain = rw (c.requires.what, c.requires.name, c.average_of.ensures, c.average_of-2.ensures, c.dollars_of.ensures) refl;
}
