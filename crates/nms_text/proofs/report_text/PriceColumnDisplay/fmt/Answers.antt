-- `PriceColumnDisplay::fmt`: clause `writes`, by `price_column`.
use Rattle.std.proofs.Output.{has_written_of_eq}
use Rattle.nms_text.proofs.ColumnFacts.{price_column}
use Rattle.nms_text.proofs.report_text.PriceColumnDisplay.fmt.Goals as goal

pub returns-clause-writes : goal.returns-clause-writes
returns-clause-writes g c plain ok =
    has_written_of_eq g.W.Write.write_str_gives c.args.f.now _ _ c.write.new.self
    (price_column c.laid_out.result c.get-number.result c.args.self.now.0 c.laid_out.ensures c.get-number.ensures.number)
    (c.write.ensures.writes plain ok)
