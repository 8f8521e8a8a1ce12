-- `write_causes`: the word of a cause is printable.
use Rattle.std.proofs.Common.{refl}
use Rattle.nms_trades.proofs.ShownFacts.{plain_word}
use Rattle.nms_trades.proofs.table.write_causes.Goals as goal

pub write_count-requires : goal.write_count-requires
write_count-requires c = record { what = refl; name = rw c.word.ensures (plain_word _) }
