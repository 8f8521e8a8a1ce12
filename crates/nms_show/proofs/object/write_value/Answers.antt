-- `write_value`: a number and three words are printable.
use Rattle.std.proofs.Common.{refl}
use Rattle.std.specs.Fmt.{decimal}
use Rattle.nms_show.proofs.SafeFacts.{printable_ascii, printable_decimal}
use Rattle.nms_show.proofs.object.write_value.Goals as goal

pub write_number-requires : goal.write_number-requires
write_number-requires c = (decimal c.in-Number.number, refl, printable_decimal c.in-Number.number)

pub write_printable-requires : goal.write_printable-requires
write_printable-requires c = record { printable = printable_ascii _ refl }

pub write_printable-requires-in-Flag-false : goal.write_printable-requires-in-Flag-false
write_printable-requires-in-Flag-false c = record { printable = printable_ascii _ refl }

pub write_printable-requires-in-Absent : goal.write_printable-requires-in-Absent
write_printable-requires-in-Absent c = record { printable = printable_ascii _ refl }
