-- `tell_summary`: each text of the line is printable.
use Rattle.std.proofs.Common.{refl}
use Rattle.nms_explain_toml.proofs.map.telling.tell_summary.Goals as goal

pub write_plain_object-requires : goal.write_plain_object-requires
write_plain_object-requires g c = record { plain = refl }

pub write_plain_line-requires : goal.write_plain_line-requires
write_plain_line-requires g c = record { plain = rw c.more_item.ensures refl }
