-- `each_column_has_a_name`: by `named_fields`.
use Rattle.nms_trades.proofs.ColumnFacts.{named_fields}
use Rattle.nms_trades.proofs.laws.each_column_has_a_name.Goals as goal

pub returns : goal.returns
returns c = named_fields
