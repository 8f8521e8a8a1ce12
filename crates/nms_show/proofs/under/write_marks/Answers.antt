-- `write_marks`: one caret more.
use Rattle.std.proofs.Common.{refl}
use Rattle.nms_show.specs.Safe.{IsSafe, nothing}
use Rattle.nms_show.proofs.SafeFacts.{printable_ascii}
use Rattle.nms_show.proofs.WriteFacts.{adds_none, safe_part, safe_then, writes_err}
use Rattle.nms_show.proofs.under.write_marks.Goals as goal

pub loop-init : goal.loop-init
loop-init g c = adds_none IsSafe (g.W.Write.contents c.args.answers.now) nothing

pub returns-in_err-write_item : goal.returns-in_err-write_item
returns-in_err-write_item g c =
    writes_err IsSafe _ _ c.from_residual.result c.from_residual.ensures.0
    (safe_part _ _ _ c.loop.invariant (c.in_err-write_item.ensures (printable_ascii _ refl)))

pub loop-preserved : goal.loop-preserved
loop-preserved g c = safe_then _ _ _ c.loop.invariant (c.in_ok-write_item.ensures (printable_ascii _ refl))
