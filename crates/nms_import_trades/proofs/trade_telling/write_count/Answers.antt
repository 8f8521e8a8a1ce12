-- `write_count`: nothing, or a line whose text is printable.
use Rattle.std.proofs.Common.{refl}
use Rattle.nms_show.specs.Safe.{IsSafe, nothing}
use Rattle.nms_show.proofs.Offered.{adds_none}
use Rattle.nms_import_trades.proofs.trade_telling.write_count.Goals as goal

pub returns-then-count-eq0 : goal.returns-then-count-eq0
returns-then-count-eq0 g c = λ own. adds_none IsSafe _ nothing

pub returns : goal.returns
returns g c = λ own. c.line.ensures (rw own refl)
