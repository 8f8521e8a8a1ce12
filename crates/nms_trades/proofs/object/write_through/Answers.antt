-- `write_through`: the head, and the rows.
use Rattle.nms_show.specs.Safe.{IsSafe, nothing}
use Rattle.nms_show.proofs.Offered.{adds_no_part, safe_writes, writes_err}
use Rattle.nms_trades.proofs.object.write_through.Goals as goal

pub returns-in_default : goal.returns-in_default
returns-in_default g c = adds_no_part IsSafe _ nothing

pub returns-in_err-write_head : goal.returns-in_err-write_head
returns-in_err-write_head g c =
    writes_err IsSafe _ _ c.from_residual.result c.from_residual.ensures.0 c.in_err-write_head.ensures

pub returns : goal.returns
returns g c = safe_writes c.write_rows.result _ _ _ c.in_ok-write_head.ensures c.write_rows.ensures
