-- `write_count_object`: the keys, the word and the name are printable.
use Rattle.std.proofs.Common.{refl}
use Rattle.nms_trades.proofs.table.write_count_object.Goals as goal

pub object-requires : goal.object-requires
object-requires c = record {
  plain =
      rw (
        c.requires.what,
        c.requires.name,
        c.money_of.ensures,
        c.money_of-2.ensures,
        c.money_of-3.ensures,
        c.money_of-4.ensures,
      ) refl;
}
