-- `write_carets`: the spaces, the carets, and the end of the line.
use Rattle.nms_show.specs.Safe.{IsSafe}
use Rattle.nms_show.proofs.WriteFacts.{safe_part, safe_then, safe_writes, writes_err}
use Rattle.nms_show.proofs.under.write_carets.Goals as goal

pub returns-in_err-write_marks : goal.returns-in_err-write_marks
returns-in_err-write_marks g c =
    writes_err IsSafe _ _ c.from_residual-in_err-write_marks.result c.from_residual-in_err-write_marks.ensures.0
    (safe_part _ _ _ c.in_ok-write_spaces.ensures c.in_err-write_marks.ensures)

pub returns : goal.returns
returns g c =
    safe_writes c.end_line.result _ _ _ (safe_then _ _ _ c.in_ok-write_spaces.ensures c.in_ok-write_marks.ensures) c.end_line.ensures
