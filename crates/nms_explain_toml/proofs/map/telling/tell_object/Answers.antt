-- `tell_object`: each text of the object is printable.
use Rattle.std.proofs.Common.{refl}
use Rattle.nms_explain_toml.proofs.map.telling.tell_object.Goals as goal

pub write_plain_object-requires : goal.write_plain_object-requires
write_plain_object-requires g c = record {
  plain =
      rw (c.requires.code, c.requires.found, c.table_item.ensures, c.item_of.ensures.plain, c.item_of-2.ensures.plain) refl;
}
