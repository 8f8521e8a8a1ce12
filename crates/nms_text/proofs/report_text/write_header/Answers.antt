-- `write_header`: all that it promises, by `line_written`, `number_column` and `symbol_column`.
use Rattle.std.proofs.Common.{[], ◌∷◌, ap, ◌∙◌}
use Rattle.nms_quote.specs.Roster.{symbol_text}
use Rattle.nms_text.specs.Report.{at_left}
use Rattle.nms_text.proofs.ColumnFacts.{line_written, number_column, symbol_column}
use Rattle.nms_text.proofs.report_text.write_header.Goals as goal

pub returns : goal.returns
returns g c =
    let roster = c.args.roster.now in
    let symbol = symbol_column _ roster c.sym.result c.sym_name-sym.result.now c.laid_out.ensures c.sym_name-sym.ensures.name
    c.sym_name-sym.ensures.form
    ∙ ap (λ place. at_left 8 (symbol_text roster place)) c.sym.ensures in
    let version = number_column _ 8 _ _ c.laid_out-2.ensures c.version-version.ensures.version in
    line_written c.writeln.result _ _ _ _ (λ i. symbol i ∷ version i ∷ c.word_of_market-market.ensures.word i ∷ []) c.writeln.ensures.bytes
