-- `import_shard`: what holds in each turn of its loop.
use Rattle.std.proofs.Common.{ℕ, ◌≡◌, ◌+◌, ◌++◌, ◌≤◌, List, Option, length}
use Rattle.csv.specs.declared.parser.Config.{Config}
use Rattle.nms_lines.specs.Layout.{Record}
use Rattle.nms_import.specs.Imported.{changes_in, rows_in}
use Rattle.nms_import.specs.Rows.{RowsFrom, unread}
use Rattle.nms_shards.specs.Shard.{waiting}
use Rattle.nms_shards.proofs.sharding.import_shard.Given as goal

-- the rows read so far were counted, except the current one
abbrev pub invariant-loop-done : goal.invariant-loop-done
invariant-loop-done g l = (rows_in l.tally ≡ l.done)
    × (l.notes.changes + l.fn.cutting.changes ≡ l.fn.notes.changes + l.cutting.changes)
    × (changes_in l.tally + l.fn.cutting.changes ≤ changes_in l.fn.tally + l.cutting.changes)
    × (l.cutting.limit ≡ l.fn.cutting.limit) × (l.cutting.opened ≡ l.fn.cutting.opened)
    × ((config : Config) (bytes : Option (List ℕ)) (seen : List Record) → RowsFrom config (unread g.R.Read.remaining) l.fn.reader bytes seen
    → (rows : List Record) × RowsFrom config (unread g.R.Read.remaining) l.reader bytes (seen ++ rows)
    × (rows_in l.tally + waiting l.at_hand ≡ rows_in l.fn.tally + waiting l.waits + length rows))
