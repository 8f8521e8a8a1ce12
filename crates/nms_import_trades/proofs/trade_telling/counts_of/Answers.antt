-- `counts_of`: each text is printable ASCII.
use Rattle.std.proofs.Common.{refl}
use Rattle.nms_import_trades.proofs.trade_telling.counts_of.Goals as goal

pub returns : goal.returns
returns c = refl
