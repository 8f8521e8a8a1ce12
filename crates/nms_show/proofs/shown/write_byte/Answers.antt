-- `write_byte`: a backslash, a letter and two digits are printable.
use Rattle.std.proofs.Common.{refl}
use Rattle.nms_show.specs.Safe.{no_text}
use Rattle.nms_show.proofs.SafeFacts.{in_range, printable_cons}
use Rattle.nms_show.proofs.shown.write_byte.Goals as goal

pub write_printable-requires : goal.write_printable-requires
write_printable-requires g c = record {
  printable = printable_cons 92 _ refl (printable_cons 120 _ refl
      (printable_cons c.hex_digit.result _ (in_range c.hex_digit.result c.hex_digit.ensures.low c.hex_digit.ensures.high)
      (printable_cons c.hex_digit-2.result _
      (in_range c.hex_digit-2.result c.hex_digit-2.ensures.low c.hex_digit-2.ensures.high) no_text)));
}
