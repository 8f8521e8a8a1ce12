-- `tell_place`: each text of the line is printable.
use Rattle.std.proofs.Common.{refl}
use Rattle.nms_explain_toml.proofs.map.telling.tell_place.Goals as goal

pub write_marked-requires : goal.write_marked-requires
write_marked-requires g c = record {
  code = c.requires.code;
  items =
      rw (
        c.requires.sentence,
        c.words_before.ensures.plain refl,
        c.table_item.ensures,
        c.words_before-2.ensures.plain refl,
        c.item_of.ensures.plain,
      ) refl;
}
