-- `import_rows`: all that it promises and the turns of its loop, by `changes_on`, `times_on`, `given_count`, `last_more`,
-- `kept_more`, `accepted_more` and `one_sided_more`.
use Rattle.std.proofs.Common.{ℕ, ◌≡◌, ◌+◌, ◌++◌, ◌∷◌, ◌≤◌, [], List, Bool, true, false, Ok, ap, arith, refl, sym, subst, ◌∙◌}
use Rattle.std.proofs.Common.{append_assoc, length, length-append}
use Rattle.std.proofs.lemmas.List.{append-nil}
use Rattle.std.specs.Io.KnownBytes.{Appends}
use Rattle.csv.specs.Records.{fields_of}
use Rattle.nms_lines.specs.Layout.{Record}
use Rattle.nms_import.specs.Imported.{Given, changes_given, given_at, given_row, halves_in, kept_from, last_after, last_of, listed}
use Rattle.nms_import.specs.Imported.{made_at, made_by, numbered, rows_in, times_given}
use Rattle.nms_import.specs.Rows.{RowsFrom, unread}
use Rattle.nms_import.specs.SideRows.{Kept, kept_in}
use Rattle.nms_import.proofs.KeptFacts.{given_same, kept_same, made_same, row_same}
use Rattle.nms_import.proofs.TextFacts.{accepted_more, changes_on, given_count, kept_more, last_more, none_written, one_sided_more, times_on}
use Rattle.nms_import.specs.declared.row_source.RowSource.{RowSource}
use Rattle.nms_import.proofs.importing.import_rows.Goals as goal

pub loop-done-init : goal.loop-done-init
loop-done-init g c = (
  sym c.in-Some.ensures.rows,
  c.in_ok-make_room.ensures.room,
  λ config bytes seen kept reads stands. (
    [],
    subst (λ (rows : List Record). RowsFrom {R = RowSource g.row.R.Denot} config (unread g.R.Read.remaining) c.args.reader.now bytes rows)
        (sym (append-nil seen)) reads,
    none_written (g.C.Write.contents c.args.changes.now),
    none_written (g.T.Write.contents c.args.times.now),
    omega arith,
    omega arith,
    omega arith,
    refl,
    omega arith,
    λ part symbol. c.in_ok-make_room.ensures.kept part symbol ∙ stands part symbol,
  ),
)

pub returns-then-not-branch : goal.returns-then-not-branch
returns-then-not-branch g c = record {
  written = λ config bytes seen kept reads stands.
      let had = c.loop-done.invariant.2 config bytes seen kept reads stands in
      let none : c.in_ok-next_row.field-0 ≡ false = cc in
      let end = c.in_ok-next_row.ensures.end config bytes (seen ++ had.0) had.1 (ap (λ (b : Bool). Ok b) none) in
      (had.0, end, had.2, had.3, had.4, had.5, had.6, had.7, had.8, had.9);
}

pub loop-done-preserved : goal.loop-done-preserved
loop-done-preserved g c = (
  c.in_ok-import_row.ensures.rows ∙ ap (λ n. n + 1) c.loop-done.invariant.0,
  λ has. subst (λ (n : ℕ). length c.args.roster.now.syms ≤ n) (sym c.in_ok-import_row.ensures.room) (c.loop-done.invariant.1 has),
  λ config bytes seen kept reads stands.
      let had = c.loop-done.invariant.2 config bytes seen kept reads stands in
      let is_found : c.in_ok-next_row.field-0 ≡ true = cc in
      let row = fields_of c.next_row.new.row in
      let found = c.in_ok-next_row.ensures.found config bytes (seen ++ had.0) had.1 (ap (λ (b : Bool). Ok b) is_found) in
      let columns = c.args.columns.now in
      let mapping = c.args.meanings.now in
      let roster = c.args.roster.now in
      let first = c.args.notes.now.time in
      let before = rows_in c.args.tally.now in
      let last : ℕ = last_of columns mapping roster first kept had.0 in
      let shown : Kept = kept_in c.loop-done.work.kept.all in
      let then : Kept = kept_from columns mapping roster first kept had.0 in
      let number : c.loop-done.done + 1 ≡ before + length had.0 + 1 = omega (arith, had.4, c.loop-done.invariant.0) in
      let own = c.of_row-own.result.now in
      let given : numbered (c.loop-done.done + 1) (given_at own mapping roster c.loop-done.notes.time shown row)
      ≡ given_row columns mapping roster last then (before + length had.0 + 1) row =
      row_same columns own mapping roster c.loop-done.notes.time last shown then (c.loop-done.done + 1) (before + length had.0 + 1) row
      c.of_row-own.ensures had.7 number had.9 in
      let made : made_at own mapping roster shown row ≡ made_by columns mapping roster then row =
      made_same columns own mapping roster shown then row c.of_row-own.ensures had.9 in (
        had.0 ++ row ∷ [],
        subst (λ (rows : List Record). RowsFrom {R = RowSource g.row.R.Denot} config (unread g.R.Read.remaining) c.next_row.new.reader bytes
            rows) (append_assoc seen had.0 (row ∷ [])) found,
        changes_on columns mapping roster first kept before had.0 row (g.C.Write.contents c.args.changes.now)
            (g.C.Write.contents c.loop-done.changes) (g.C.Write.contents c.import_row.new.changes) had.2
            (subst (λ (it : List Given). Appends (g.C.Write.contents c.loop-done.changes) (g.C.Write.contents c.import_row.new.changes)
            (changes_given roster it)) given c.in_ok-import_row.ensures.changes),
        times_on c.args.numbers columns mapping roster first kept before had.0 row (g.T.Write.contents c.args.times.now)
            (g.T.Write.contents c.loop-done.times) (g.T.Write.contents c.import_row.new.times) had.3
            (subst (λ (it : List Given). Appends (g.T.Write.contents c.loop-done.times) (g.T.Write.contents c.import_row.new.times)
            (times_given c.args.numbers it)) given c.in_ok-import_row.ensures.times),
        omega (arith, c.in_ok-import_row.ensures.rows, had.4, length-append had.0 (row ∷ [])),
        omega (
          arith,
          c.in_ok-import_row.ensures.counted,
          had.5,
          ap (λ it. length (listed it)) made,
          accepted_more columns mapping roster first kept had.0 row,
        ),
        omega (
          arith,
          c.in_ok-import_row.ensures.halves,
          had.6,
          ap (λ it. halves_in (listed it)) made,
          one_sided_more columns mapping roster first kept had.0 row,
        ),
        c.in_ok-import_row.ensures.last
            ∙ ap (λ (t : ℕ). last_after t (given_at own mapping roster c.loop-done.notes.time shown row)) had.7
            ∙ ap (last_after last)
            (given_same columns own mapping roster c.loop-done.notes.time last shown then row c.of_row-own.ensures had.7 had.9)
            ∙ sym (last_more columns mapping roster first kept had.0 row),
        omega (
          arith,
          ap length given,
          c.in_ok-import_row.ensures.noted,
          had.8,
          given_count columns mapping roster first kept before had.0 row,
        ),
        λ part symbol.
            c.in_ok-import_row.ensures.kept part symbol
            ∙ kept_same columns own mapping roster c.loop-done.notes.time last shown then row c.of_row-own.ensures had.7 had.9 part symbol
            ∙ ap (λ (k : Kept). k part symbol) (sym (kept_more columns mapping roster first kept had.0 row)),
      ),
)
