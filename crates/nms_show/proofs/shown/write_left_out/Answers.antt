-- `write_left_out`: three printable texts in turn.
use Rattle.std.proofs.Common.{refl}
use Rattle.std.specs.Fmt.{decimal}
use Rattle.nms_show.specs.Safe.{IsPrintable}
use Rattle.nms_show.proofs.SafeFacts.{printable_ascii, printable_decimal}
use Rattle.nms_show.proofs.WriteFacts.{printable_part, printable_then, printable_writes, writes_err}
use Rattle.nms_show.proofs.shown.write_left_out.Goals as goal

pub write_printable-requires : goal.write_printable-requires
write_printable-requires g c = record { printable = printable_ascii _ refl }

pub write_number-requires : goal.write_number-requires
write_number-requires g c = (decimal c.args.more, refl, printable_decimal c.args.more)

pub returns-in_err-write_number : goal.returns-in_err-write_number
returns-in_err-write_number g c =
    writes_err IsPrintable _ _ c.from_residual-in_err-write_number.result c.from_residual-in_err-write_number.ensures.0
    (printable_part _ _ _ c.in_ok-write_printable.ensures c.in_err-write_number.ensures)

pub write_printable-requires-2 : goal.write_printable-requires-2
write_printable-requires-2 g c = record { printable = printable_ascii _ refl }

pub returns : goal.returns
returns g c =
    printable_writes c.write_printable-2.result _ _ _ (printable_then _ _ _ c.in_ok-write_printable.ensures c.in_ok-write_number.ensures)
    c.write_printable-2.ensures
