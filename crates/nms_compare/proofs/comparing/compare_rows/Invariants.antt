-- `compare_rows`: what holds in each turn of its loop.
use Rattle.std.proofs.Common.{ℕ, ◌≡◌, ◌++◌, List, Option, length}
use Rattle.csv.specs.declared.parser.Config.{Config}
use Rattle.nms_lines.specs.Layout.{Record}
use Rattle.nms_import.specs.Rows.{RowsFrom, unread}
use Rattle.nms_compare.specs.Compared.{counts_of, rows_in}
use Rattle.nms_compare.specs.Summed.{judged_in, summed}
use Rattle.nms_compare.proofs.comparing.compare_rows.Given as goal

-- the rows read so far were counted, also in the sums, and the tape and its keys stay
abbrev pub invariant-loop-done : goal.invariant-loop-done
invariant-loop-done g l = (rows_in l.counts ≡ l.done)
    × (l.walk.replay.tape.now ≡ l.keyed.tape.now)
    × (l.walk.keys.now ≡ l.keyed.keys.items)
    × ((config : Config) (bytes : Option (List ℕ)) (seen : List Record) → RowsFrom config (unread g.R.Read.remaining) l.fn.reader bytes seen
    → (rows : List Record) × RowsFrom config (unread g.R.Read.remaining) l.reader bytes (seen ++ rows)
    × (l.counts ≡ counts_of l.vendor l.keyed.tape.now.roster.now l.keyed.tape.now.changes.items l.keyed.keys.items rows)
    × (rows_in l.counts ≡ length rows)
    × (l.shown.sums ≡ summed l.fn.shown.sums
    (judged_in l.vendor l.keyed.tape.now.roster.now l.keyed.tape.now.changes.items l.keyed.keys.items rows)))
