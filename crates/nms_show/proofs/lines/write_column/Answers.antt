-- `write_column`: spaces, spaces, and the item.
use Rattle.std.proofs.Common.{refl}
use Rattle.nms_show.specs.Safe.{IsSafe}
use Rattle.nms_show.proofs.SafeFacts.{printable_ascii}
use Rattle.nms_show.proofs.WriteFacts.{safe_part, safe_then, writes_err}
use Rattle.nms_show.proofs.lines.write_column.Goals as goal

pub write_many-requires : goal.write_many-requires
write_many-requires g c = record { printable = printable_ascii _ refl }

pub write_many-requires-2 : goal.write_many-requires-2
write_many-requires-2 g c = record { printable = printable_ascii _ refl }

pub returns-in_err-write_many-2 : goal.returns-in_err-write_many-2
returns-in_err-write_many-2 g c = λ own.
    writes_err IsSafe _ _ c.from_residual-in_err-write_many-2.result c.from_residual-in_err-write_many-2.ensures.0
    (safe_part _ _ _ c.in_ok-write_many.ensures c.in_err-write_many-2.ensures)

pub returns-in_err-write_item : goal.returns-in_err-write_item
returns-in_err-write_item g c = λ own.
    writes_err IsSafe _ _ c.from_residual-in_err-write_item.result c.from_residual-in_err-write_item.ensures.0
    (safe_part _ _ _ (safe_then _ _ _ c.in_ok-write_many.ensures c.in_ok-write_many-2.ensures) (c.in_err-write_item.ensures own))

pub returns : goal.returns
returns g c = λ own.
    safe_then _ _ _ (safe_then _ _ _ c.in_ok-write_many.ensures c.in_ok-write_many-2.ensures) (c.in_ok-write_item.ensures own)
