-- `write_coloured`: a colour, the item, and the end of the colour.
use Rattle.nms_show.specs.Safe.{IsSafe, nothing, plain}
use Rattle.nms_show.proofs.WriteFacts.{safe_adds, safe_adds_part, safe_part, safe_then, safe_writes, writes_err}
use Rattle.nms_show.proofs.lines.write_coloured.Goals as goal

pub returns-in_err-write_plain : goal.returns-in_err-write_plain
returns-in_err-write_plain g c = λ own.
    writes_err IsSafe _ _ c.from_residual-in_err-write_plain.result c.from_residual-in_err-write_plain.ensures.0
    (safe_part _ _ _ c.in_ok-write_safe.ensures (safe_adds_part _ _ (c.in_err-write_plain.ensures own)))

pub write_safe-requires-2 : goal.write_safe-requires-2
write_safe-requires-2 g c = record { safe = plain nothing }

pub returns : goal.returns
returns g c = λ own.
    safe_writes c.write_safe-2.result _ _ _ (safe_then _ _ _ c.in_ok-write_safe.ensures (safe_adds _ _ (c.in_ok-write_plain.ensures own)))
    c.write_safe-2.ensures
