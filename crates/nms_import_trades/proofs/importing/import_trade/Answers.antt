-- `import_trade`: clause `executions`, by `one_written`.
use Rattle.std.proofs.Common.{◌≡◌, Ok, ap, sym, ◌∙◌}
use Rattle.csv.specs.Records.{fields_of}
use Rattle.nms_import_trades.specs.TradeRow.{only_on, trade_of}
use Rattle.nms_import_trades.proofs.RecordFacts.{on_ok, one_written}
use Rattle.nms_import_trades.proofs.importing.import_trade.Goals as goal

pub returns-in-Ok-clause-executions : goal.returns-in-Ok-clause-executions
returns-in-Ok-clause-executions g c =
    let row = fields_of c.args.work.now.row in
    let day = c.args.work.now.day in
    let is : Ok c.in-Ok.trade ≡ only_on day (trade_of c.args.columns.now c.args.meanings.now c.args.roster.now row) =
    sym c.in-Ok.is ∙ c.only_on.ensures ∙ ap (only_on day) c.in_ok-made.ensures.trade in
    on_ok c.write_trade.result
    (one_written c.args.columns.now c.args.meanings.now c.args.roster.now day c.args.number row c.in-Ok.trade is
    (g.W.Write.contents c.args.executions.now) (g.W.Write.contents c.write_trade.new.executions)) c.write_trade.ensures.record
