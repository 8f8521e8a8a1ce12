-- `write_under`: the record, and the line of carets; the mark of bytes that are left out is printable.
use Rattle.std.proofs.Common.{refl, subst, sym}
use Rattle.nms_show.specs.Safe.{IsPrintable, no_text}
use Rattle.nms_show.proofs.SafeFacts.{printable_ascii}
use Rattle.nms_show.proofs.WriteFacts.{safe_writes}
use Rattle.nms_show.proofs.under.write_under.Goals as goal
use Rattle.nms_show.proofs.under.write_under.Goals.{then-near-before, else-near-before, then-shown-from, else-shown-from}

pub write_record-requires-clause-ahead : goal.write_record-requires-clause-ahead
write_record-requires-clause-ahead g c = elim c.if-near-before.branch [
  | then-near-before w ↦ subst (λ text. IsPrintable text.now) (sym w.ahead-is) (printable_ascii _ refl)
  | else-near-before w ↦ subst (λ text. IsPrintable text.now) (sym w.ahead-is) no_text
]

pub write_record-requires-clause-after : goal.write_record-requires-clause-after
write_record-requires-clause-after g c = elim c.if-shown-from.branch [
  | then-shown-from w ↦ subst (λ text. IsPrintable text.now) (sym w.after-is) (printable_ascii _ refl)
  | else-shown-from w ↦ subst (λ text. IsPrintable text.now) (sym w.after-is) no_text
]

pub returns : goal.returns
returns g c = record { safe = safe_writes c.write_carets.result _ _ _ c.in_ok-write_record.ensures c.write_carets.ensures }
