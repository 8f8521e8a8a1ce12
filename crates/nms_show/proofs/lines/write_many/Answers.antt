-- `write_many`: one text more.
use Rattle.nms_show.specs.Safe.{IsSafe, nothing}
use Rattle.nms_show.proofs.SafeFacts.{safe_printable}
use Rattle.nms_show.proofs.WriteFacts.{adds_none, safe_part, safe_then, writes_err}
use Rattle.nms_show.proofs.lines.write_many.Goals as goal

pub loop-init : goal.loop-init
loop-init g c = adds_none IsSafe (g.W.Write.contents c.args.answers.now) nothing

pub write_safe-requires : goal.write_safe-requires
write_safe-requires g c = record { safe = safe_printable c.args.text.now c.requires.printable }

pub returns-in_err-write_safe : goal.returns-in_err-write_safe
returns-in_err-write_safe g c =
    writes_err IsSafe _ _ c.from_residual.result c.from_residual.ensures.0 (safe_part _ _ _ c.loop.invariant c.in_err-write_safe.ensures)

pub loop-preserved : goal.loop-preserved
loop-preserved g c = safe_then _ _ _ c.loop.invariant c.in_ok-write_safe.ensures
