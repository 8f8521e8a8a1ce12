-- `open_rows`: all that it promises, by `stands_first`.
use Rattle.std.proofs.Common.{rules}
use Rattle.nms_import.specs.Rows.{row_config, unread}
use Rattle.nms_import.specs.declared.row_source.RowSource.{RowSource}
use Rattle.nms_import.proofs.RowFacts.{stands_first}
use Rattle.nms_import.proofs.rows.open_rows.Goals as goal

pub returns : goal.returns
returns g c = record {
  plain = search rules;
  ready = search rules;
  flexible = search rules;
  configured = search rules;
  stands = stands_first {R = RowSource g.row.R.Denot} (row_config c.args.delimiter c.args.quotes) (unread g.R.Read.remaining)
      c.from_reader.result (g.R.Read.remaining c.args.source) (rw c.new-rows.ensures at c.from_reader.ensures.source) c.from_reader.ensures.state;
}
