-- `write_columns`: a space, if it is not the first, and one column more.
use Rattle.std.proofs.Common.{refl}
use Rattle.nms_show.specs.Safe.{IsSafe, nothing}
use Rattle.nms_show.proofs.SafeFacts.{printable_ascii}
use Rattle.nms_show.proofs.WriteFacts.{adds_none, safe_part, safe_then, writes_err}
use Rattle.nms_show.proofs.lines.write_columns.Goals as goal

pub loop-place-init : goal.loop-place-init
loop-place-init g c = λ own. adds_none IsSafe (g.W.Write.contents c.args.answers.now) nothing

pub write_many-requires : goal.write_many-requires
write_many-requires g c = record { printable = printable_ascii _ refl }

pub returns-in_err-write_many : goal.returns-in_err-write_many
returns-in_err-write_many g c = λ own.
    writes_err IsSafe _ _ c.from_residual.result c.from_residual.ensures.0
    (safe_part _ _ _ (c.loop-place.invariant own) c.in_err-write_many.ensures)

pub returns-in_err-owed : goal.returns-in_err-owed
returns-in_err-owed g c = λ own.
    writes_err IsSafe _ _ c.from_residual-in_err-owed.result c.from_residual-in_err-owed.ensures.0
    (safe_part _ _ _ (safe_then _ _ _ (c.loop-place.invariant own) c.in_ok-write_many.ensures)
    (c.in_err-owed.ensures (own c.loop-place.place _ c.loop-place-test.true)))

pub loop-place-preserved : goal.loop-place-preserved
loop-place-preserved g c = λ own.
    safe_then _ _ _ (safe_then _ _ _ (c.loop-place.invariant own) c.in_ok-write_many.ensures)
    (c.in_ok-owed.ensures (own c.loop-place.place _ c.loop-place-test.true))
