-- `import_rows`: what holds in each turn of its loop.
use Rattle.std.proofs.Common.{ℕ, ◌≡◌, ◌+◌, ◌++◌, List, Option, length}
use Rattle.std.specs.Io.KnownBytes.{Appends}
use Rattle.csv.specs.declared.parser.Config.{Config}
use Rattle.nms_lines.specs.Layout.{Record}
use Rattle.nms_import.specs.Imported.{HasRoom, accepted, changes_given, changes_in, given_from, kept_from, last_of, one_sided, rows_in}
use Rattle.nms_import.specs.Imported.{times_given}
use Rattle.nms_import.specs.Rows.{RowsFrom, unread}
use Rattle.nms_import.specs.SideRows.{IsKept, Kept}
use Rattle.nms_import.proofs.importing.import_rows.Given as goal

-- the rows read so far were written, counted and noted, and what their venues show is kept
abbrev pub invariant-loop-done : goal.invariant-loop-done
invariant-loop-done g l = (rows_in l.tally ≡ l.done) × HasRoom l.meanings l.roster l.work.kept
    × ((config : Config) (bytes : Option (List ℕ)) (seen : List Record) (kept : Kept)
    → RowsFrom config (unread g.R.Read.remaining) l.fn.reader bytes seen → IsKept l.fn.work.kept kept
    → (rows : List Record) × RowsFrom config (unread g.R.Read.remaining) l.reader bytes (seen ++ rows)
    × Appends (g.C.Write.contents l.fn.changes) (g.C.Write.contents l.changes)
    (changes_given l.roster (given_from l.columns l.meanings l.roster l.fn.notes.time kept (rows_in l.fn.tally) rows))
    × Appends (g.T.Write.contents l.fn.times) (g.T.Write.contents l.times)
    (times_given l.numbers (given_from l.columns l.meanings l.roster l.fn.notes.time kept (rows_in l.fn.tally) rows))
    × (rows_in l.tally ≡ rows_in l.fn.tally + length rows)
    × (changes_in l.tally ≡ changes_in l.fn.tally + length (accepted l.columns l.meanings l.roster l.fn.notes.time kept rows))
    × (l.tally.halves ≡ l.fn.tally.halves + one_sided l.columns l.meanings l.roster l.fn.notes.time kept rows)
    × (l.notes.time ≡ last_of l.columns l.meanings l.roster l.fn.notes.time kept rows)
    × (l.notes.changes
    ≡ l.fn.notes.changes + length (given_from l.columns l.meanings l.roster l.fn.notes.time kept (rows_in l.fn.tally) rows))
    × IsKept l.work.kept (kept_from l.columns l.meanings l.roster l.fn.notes.time kept rows))
