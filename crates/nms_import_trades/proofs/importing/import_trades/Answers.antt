-- `import_trades`: all that it promises and the turns of its loop, by `written_on` and `counted_on`.
use Rattle.std.proofs.Common.{ℕ, ◌≡◌, ◌+◌, ◌++◌, ◌∷◌, [], List, length, Bool, true, false, Ok, Option, ap, arith, refl, sym, subst, ◌∙◌}
use Rattle.std.proofs.Common.{append_assoc, length-append}
use Rattle.std.proofs.lemmas.List.{append-nil}
use Rattle.csv.specs.Records.{fields_of}
use Rattle.nms_lines.specs.Layout.{Record}
use Rattle.nms_import.specs.Rows.{RowsFrom, unread}
use Rattle.nms_import.specs.declared.row_source.RowSource.{RowSource}
use Rattle.nms_import_trades.specs.Executions.{rows_in}
use Rattle.nms_import_trades.specs.TradeRow.{day_after, made_on}
use Rattle.nms_import_trades.proofs.RecordFacts.{counted_on, day_on, none_written, written_on}
use Rattle.nms_import_trades.proofs.importing.import_trades.Goals as goal

pub loop-done-init : goal.loop-done-init
loop-done-init g c = (
  sym c.in-Some.ensures.rows,
  λ config bytes seen reads. (
    [],
    subst (λ (rows : List Record). RowsFrom {R = RowSource g.row.R.Denot} config (unread g.R.Read.remaining) c.args.reader.now bytes rows)
        (sym (append-nil seen)) reads,
    none_written (g.W.Write.contents c.args.executions.now),
    omega arith,
    omega arith,
    refl,
  ),
)

pub returns-then-not-branch : goal.returns-then-not-branch
returns-then-not-branch g c = record {
  written = λ config bytes seen reads.
      let had = c.loop-done.invariant.1 config bytes seen reads in
      let none : c.in_ok-next_row.field-0 ≡ false = cc in
      let end = c.in_ok-next_row.ensures.end config bytes (seen ++ had.0) had.1 (ap (λ (b : Bool). Ok b) none) in
      (had.0, end, had.2, had.3, had.4, had.5);
}

pub loop-done-preserved : goal.loop-done-preserved
loop-done-preserved g c = (
  c.in_ok-import_trade.ensures.rows ∙ ap (λ n. n + 1) c.loop-done.invariant.0,
  λ config bytes seen reads.
      let had = c.loop-done.invariant.1 config bytes seen reads in
      let is_found : c.in_ok-next_row.field-0 ≡ true = cc in
      let row = fields_of c.next_row.new.row in
      let found = c.in_ok-next_row.ensures.found config bytes (seen ++ had.0) had.1 (ap (λ (b : Bool). Ok b) is_found) in
      let numbered : c.loop-done.done + 1 ≡ rows_in c.args.tally.now + 1 + length had.0 =
      omega (arith, c.loop-done.invariant.0, had.3) in (
        had.0 ++ row ∷ [],
        subst (λ (rows : List Record). RowsFrom {R = RowSource g.row.R.Denot} config (unread g.R.Read.remaining) c.next_row.new.reader bytes rows)
            (append_assoc seen had.0 (row ∷ [])) found,
        written_on c.args.columns.now c.args.meanings.now c.args.roster.now c.args.work.now.day c.loop-done.work.day
            (rows_in c.args.tally.now + 1) (c.loop-done.done + 1) had.0 row
            (g.W.Write.contents c.args.executions.now) (g.W.Write.contents c.loop-done.executions)
            (g.W.Write.contents c.import_trade.new.executions) had.5 numbered had.2 c.in_ok-import_trade.ensures.executions,
        omega (arith, c.in_ok-import_trade.ensures.rows, had.3, length-append had.0 (row ∷ [])),
        omega (
          arith,
          c.in_ok-import_trade.ensures.counted,
          had.4,
          counted_on c.args.columns.now c.args.meanings.now c.args.roster.now c.args.work.now.day c.loop-done.work.day
              (rows_in c.args.tally.now + 1) (c.loop-done.done + 1) had.0 row had.5 numbered,
        ),
        c.in_ok-import_trade.ensures.day
            ∙ ap (λ (from : Option ℕ). day_after from (made_on from c.args.columns.now c.args.meanings.now c.args.roster.now row)) had.5
            ∙ day_on c.args.columns.now c.args.meanings.now c.args.roster.now c.args.work.now.day had.0 row,
      ),
)
