-- `tell_object`: each text of the object is printable.
use Rattle.std.proofs.Common.{refl}
use Rattle.nms_explain.proofs.refusal.tell_object.Goals as goal

pub object-requires : goal.object-requires
object-requires c = record {
  plain =
      rw (
        c.text.ensures.plain,
        c.field_items.ensures.number,
        c.field_items.ensures.name,
        c.requires.found,
        c.item_if_any.ensures.plain,
        c.point_items.ensures.line,
        c.point_items.ensures.column,
      ) refl;
}
