-- `stream_boards`: a refused file leaves nothing written.
use Rattle.nms_show.specs.Safe.{IsSafe, nothing}
use Rattle.nms_show.proofs.Offered.{adds_no_part, writes_err}
use Rattle.nms_drawing.proofs.streamed.stream_boards.Goals as goal

pub returns-in-Err-clause-safe : goal.returns-in-Err-clause-safe
returns-in-Err-clause-safe g c = adds_no_part IsSafe _ nothing

pub returns-in_err-check_len-clause-safe : goal.returns-in_err-check_len-clause-safe
returns-in_err-check_len-clause-safe g c = writes_err IsSafe _ _ c.from_residual.result c.from_residual.ensures.0 (adds_no_part IsSafe _ nothing)
