-- `write_members`: a comma, if it is not the first, and one member more.
use Rattle.std.proofs.Common.{refl, subst, sym, Some}
use Rattle.nms_show.specs.Safe.{IsPrintable, no_text}
use Rattle.nms_show.specs.Written.{Adds}
use Rattle.nms_show.proofs.SafeFacts.{printable_ascii}
use Rattle.nms_show.proofs.WriteFacts.{adds_none, printable_then}
use Rattle.nms_show.proofs.object.write_members.Goals as goal
use Rattle.nms_show.proofs.object.write_members.Goals.{then-place-gt0+in_ok-write_printable, else-place-gt0}

pub loop-place-init : goal.loop-place-init
loop-place-init c = λ own. adds_none IsPrintable (Some c.args.text.now.items) no_text

pub write_printable-requires : goal.write_printable-requires
write_printable-requires c = record { printable = printable_ascii _ refl }

pub loop-place-preserved : goal.loop-place-preserved
loop-place-preserved c = λ own.
    let old = Some c.args.text.now.items in
    let member = own c.loop-place.place _ c.loop-place-test.true in
    let before : Adds IsPrintable old (Some c.if-place-gt0.text.items) = elim c.if-place-gt0.branch [
      | then-place-gt0+in_ok-write_printable w ↦
          subst (λ text. Adds IsPrintable old (Some text.items)) (sym w.text-is)
          (printable_then _ _ _ (c.loop-place.invariant own) w.in_ok-write_printable.ensures)
      | else-place-gt0 w ↦ subst (λ text. Adds IsPrintable old (Some text.items)) (sym w.text-is) (c.loop-place.invariant own)
    ] in
    printable_then _ _ _ before (c.in_ok-write_member.ensures member.0 member.1)
