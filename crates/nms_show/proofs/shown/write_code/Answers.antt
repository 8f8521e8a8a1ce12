-- `write_code`: three printable texts in turn.
use Rattle.std.proofs.Common.{refl}
use Rattle.nms_show.specs.Safe.{IsPrintable}
use Rattle.nms_show.proofs.SafeFacts.{printable_ascii}
use Rattle.nms_show.proofs.WriteFacts.{printable_part, printable_then, printable_writes, writes_err}
use Rattle.nms_show.proofs.shown.write_code.Goals as goal

pub write_printable-requires : goal.write_printable-requires
write_printable-requires g c = record { printable = printable_ascii _ refl }

pub returns-in_err-write_hex : goal.returns-in_err-write_hex
returns-in_err-write_hex g c =
    writes_err IsPrintable _ _ c.from_residual-in_err-write_hex.result c.from_residual-in_err-write_hex.ensures.0
    (printable_part _ _ _ c.in_ok-write_printable.ensures c.in_err-write_hex.ensures)

pub write_printable-requires-2 : goal.write_printable-requires-2
write_printable-requires-2 g c = record { printable = printable_ascii _ refl }

pub returns : goal.returns
returns g c =
    printable_writes c.write_printable-2.result _ _ _ (printable_then _ _ _ c.in_ok-write_printable.ensures c.in_ok-write_hex.ensures)
    c.write_printable-2.ensures
