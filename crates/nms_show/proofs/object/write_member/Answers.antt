-- `write_member`: the key, a colon, and the value.
use Rattle.std.proofs.Common.{refl, subst, sym}
use Rattle.nms_show.specs.Safe.{IsPrintable}
use Rattle.nms_show.proofs.SafeFacts.{printable_ascii}
use Rattle.nms_show.proofs.WriteFacts.{printable_ok, printable_then}
use Rattle.nms_show.proofs.object.write_member.Goals as goal

pub write_printable-requires : goal.write_printable-requires
write_printable-requires c = record { printable = printable_ascii _ refl }

pub returns : goal.returns
returns c = λ key own.
    printable_ok c.write_value.result _ _ _
    (printable_then _ _ _ (c.in_ok-write_string.ensures.printable (subst IsPrintable (sym c.as_bytes.ensures.value) key))
    c.in_ok-write_printable.ensures)
    (c.write_value.ensures own)
