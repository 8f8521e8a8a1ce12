-- `write_hex`: one digit more, or none.
use Rattle.std.proofs.Common.{subst, sym}
use Rattle.nms_show.specs.Safe.{IsPrintable, no_text}
use Rattle.nms_show.specs.Written.{Adds}
use Rattle.nms_show.proofs.SafeFacts.{in_range, printable_cons}
use Rattle.nms_show.proofs.WriteFacts.{adds_none, printable_part, printable_then, writes_err}
use Rattle.nms_show.proofs.shown.write_hex.Goals as goal
use Rattle.nms_show.proofs.shown.write_hex.Goals.{then-begun-2+in_ok-write_printable, else-begun-2}

pub loop-place-init : goal.loop-place-init
loop-place-init g c = adds_none IsPrintable (g.W.Write.contents c.args.answers.now) no_text

pub write_printable-requires : goal.write_printable-requires
write_printable-requires g c = record {
  printable = printable_cons c.hex_digit.result _ (in_range c.hex_digit.result c.hex_digit.ensures.low c.hex_digit.ensures.high) no_text;
}

pub returns-in_err-write_printable : goal.returns-in_err-write_printable
returns-in_err-write_printable g c =
    writes_err IsPrintable _ _ c.from_residual.result c.from_residual.ensures.0
    (printable_part _ _ _ c.loop-place.invariant c.in_err-write_printable.ensures)

pub loop-place-preserved : goal.loop-place-preserved
loop-place-preserved g c =
    let old = g.W.Write.contents c.args.answers.now in
    elim c.if-begun-2.branch [
      | then-begun-2+in_ok-write_printable w ↦
          subst (λ now. Adds IsPrintable old (g.W.Write.contents now)) (sym w.answers-is)
          (printable_then _ _ _ c.loop-place.invariant w.in_ok-write_printable.ensures)
      | else-begun-2 w ↦ subst (λ now. Adds IsPrintable old (g.W.Write.contents now)) (sym w.answers-is) c.loop-place.invariant
    ]
