-- `append_finding_row`: the number and the fields after it, in two parts, are the line, by `row_written`.
use Rattle.std.specs.Fmt.{decimal}
use Rattle.std.proofs.lemmas.Result.{on_ok_weaker}
use Rattle.nms_trades.specs.Columns.{later_columns, name_fields}
use Rattle.nms_trades.proofs.ColumnFacts.{row_written}
use Rattle.nms_trades.proofs.columns.append_finding_row.Goals as goal

pub returns : goal.returns
returns c =
    on_ok_weaker c.end_record.result
    (λ ended. row_written (decimal c.args.execution.now.number) (name_fields c.args.execution.now)
    (later_columns c.args.roster.now c.args.execution.now c.args.finding.now) c.args.out.now.items c.append_named.new.out.items
    c.append_later.new.out.items c.end_record.new.out.items c.in_ok-append_named.ensures c.in_ok-append_later.ensures ended)
    c.end_record.ensures
