-- `write_char`: each of the four escapes is printable.
use Rattle.std.proofs.Common.{refl}
use Rattle.nms_show.proofs.SafeFacts.{printable_ascii}
use Rattle.nms_show.proofs.shown.write_char.Goals as goal

pub write_printable-requires : goal.write_printable-requires
write_printable-requires g c = record { printable = printable_ascii _ refl }

pub write_printable-requires-in-10 : goal.write_printable-requires-in-10
write_printable-requires-in-10 g c = record { printable = printable_ascii _ refl }

pub write_printable-requires-in-13 : goal.write_printable-requires-in-13
write_printable-requires-in-13 g c = record { printable = printable_ascii _ refl }

pub write_printable-requires-in-9 : goal.write_printable-requires-in-9
write_printable-requires-in-9 g c = record { printable = printable_ascii _ refl }
