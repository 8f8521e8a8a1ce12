-- `import_trades`: what holds in each turn of its loop.
use Rattle.std.proofs.Common.{ℕ, ◌≡◌, ◌+◌, ◌++◌, List, Option, length}
use Rattle.std.specs.Io.KnownBytes.{Appends}
use Rattle.csv.specs.declared.parser.Config.{Config}
use Rattle.nms_lines.specs.Layout.{Record}
use Rattle.nms_import.specs.Rows.{RowsFrom, unread}
use Rattle.nms_import_trades.specs.Executions.{day_from, executions_text, records_from, rows_in}
use Rattle.nms_import_trades.proofs.importing.import_trades.Given as goal

-- the rows read so far were written and counted
abbrev pub invariant-loop-done : goal.invariant-loop-done
invariant-loop-done g l = (rows_in l.tally ≡ l.done)
    × ((config : Config) (bytes : Option (List ℕ)) (seen : List Record) → RowsFrom config (unread g.R.Read.remaining) l.fn.reader bytes seen
    → (rows : List Record) × RowsFrom config (unread g.R.Read.remaining) l.reader bytes (seen ++ rows)
    × Appends (g.W.Write.contents l.fn.executions) (g.W.Write.contents l.executions)
    (executions_text l.columns l.meanings l.roster l.fn.work.day (rows_in l.fn.tally + 1) rows)
    × (rows_in l.tally ≡ rows_in l.fn.tally + length rows)
    × (l.tally.executions
    ≡ l.fn.tally.executions + length (records_from l.columns l.meanings l.roster l.fn.work.day (rows_in l.fn.tally + 1) rows))
    × (l.work.day ≡ day_from l.columns l.meanings l.roster l.fn.work.day rows))
