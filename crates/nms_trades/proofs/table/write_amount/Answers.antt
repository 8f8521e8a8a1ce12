-- `write_amount`: the words are printable.
use Rattle.std.proofs.Common.{refl}
use Rattle.nms_trades.proofs.table.write_amount.Goals as goal

pub line-requires-2 : goal.line-requires-2
line-requires-2 c = record { plain = rw (c.requires, c.rate_of.ensures, c.money_of.ensures) refl }
