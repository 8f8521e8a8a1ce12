-- `write_boards`: one change more.
use Rattle.std.proofs.Common.{arith}
use Rattle.nms_show.specs.Safe.{IsSafe, nothing}
use Rattle.nms_show.proofs.Offered.{adds_no_part, adds_none, safe_part, safe_then, writes_err}
use Rattle.nms_drawing.proofs.boards_lines.write_boards.Goals as goal

pub returns-in-Err-clause-safe : goal.returns-in-Err-clause-safe
returns-in-Err-clause-safe g c = adds_no_part IsSafe _ nothing

pub loop-change-init : goal.loop-change-init
loop-change-init g c =
    record { tape = c.in-Ok.ensures.tape; safe = adds_none IsSafe (g.W.Write.contents c.args.answers.now) nothing }

pub returns-in_err-write_change-clause-safe : goal.returns-in_err-write_change-clause-safe
returns-in_err-write_change-clause-safe g c =
    writes_err IsSafe _ _ c.from_residual.result c.from_residual.ensures.0
    (safe_part _ _ _ c.loop-change.invariant.safe c.in_err-write_change.ensures)

pub loop-change-preserved : goal.loop-change-preserved
loop-change-preserved g c = record {
  tape = rw c.step.ensures.tape c.loop-change.invariant.tape;
  safe = safe_then _ _ _ c.loop-change.invariant.safe c.in_ok-write_change.ensures;
}

pub loop-change-smaller : goal.loop-change-smaller
loop-change-smaller g c =
    let step = rw c.loop-change.invariant.tape at c.in-Some.ensures.step in
    omega (arith, step.below, step.more)
