-- `write_lead`: three printable texts in turn.
use Rattle.std.proofs.Common.{refl}
use Rattle.nms_show.specs.Safe.{IsPrintable}
use Rattle.nms_show.proofs.SafeFacts.{printable_ascii}
use Rattle.nms_show.proofs.WriteFacts.{printable_part, printable_then, printable_writes, writes_err}
use Rattle.nms_show.proofs.under.write_lead.Goals as goal

pub write_printable-requires : goal.write_printable-requires
write_printable-requires g c = record { printable = printable_ascii _ refl }

pub returns-in_err-write_own : goal.returns-in_err-write_own
returns-in_err-write_own g c =
    writes_err IsPrintable _ _ c.from_residual-in_err-write_own.result c.from_residual-in_err-write_own.ensures.0
    (printable_part _ _ _ c.in_ok-write_printable.ensures (c.in_err-write_own.ensures c.requires.ahead))

pub returns : goal.returns
returns g c =
    printable_writes c.write_shown.result _ _ _
    (printable_then _ _ _ c.in_ok-write_printable.ensures (c.in_ok-write_own.ensures c.requires.ahead)) c.write_shown.ensures
