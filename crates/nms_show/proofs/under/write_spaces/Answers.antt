-- `write_spaces`: spaces three times.
use Rattle.std.proofs.Common.{refl}
use Rattle.nms_show.specs.Safe.{IsSafe}
use Rattle.nms_show.proofs.SafeFacts.{printable_ascii}
use Rattle.nms_show.proofs.WriteFacts.{safe_part, safe_then, safe_writes, writes_err}
use Rattle.nms_show.proofs.under.write_spaces.Goals as goal

pub write_many-requires : goal.write_many-requires
write_many-requires g c = record { printable = printable_ascii _ refl }

pub write_many-requires-2 : goal.write_many-requires-2
write_many-requires-2 g c = record { printable = printable_ascii _ refl }

pub returns-in_err-write_many-2 : goal.returns-in_err-write_many-2
returns-in_err-write_many-2 g c =
    writes_err IsSafe _ _ c.from_residual-in_err-write_many-2.result c.from_residual-in_err-write_many-2.ensures.0
    (safe_part _ _ _ c.in_ok-write_many.ensures c.in_err-write_many-2.ensures)

pub write_many-requires-3 : goal.write_many-requires-3
write_many-requires-3 g c = record { printable = printable_ascii _ refl }

pub returns : goal.returns
returns g c =
    safe_writes c.write_many-3.result _ _ _ (safe_then _ _ _ c.in_ok-write_many.ensures c.in_ok-write_many-2.ensures) c.write_many-3.ensures
