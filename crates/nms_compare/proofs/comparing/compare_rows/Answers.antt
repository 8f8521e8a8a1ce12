-- `compare_rows`: all that it promises and the turns of its loop, by `counts_more`, `sums_more` and `all_counted`.
use Rattle.std.proofs.Common.{◌≡◌, ◌+◌, ◌++◌, ◌∷◌, [], List, Bool, true, false, Ok, ap, arith, refl, sym, subst, ◌∙◌}
use Rattle.std.proofs.Common.{append_assoc, length-append}
use Rattle.std.proofs.lemmas.List.{append-nil}
use Rattle.csv.specs.Records.{fields_of}
use Rattle.nms_lines.specs.Layout.{Record}
use Rattle.nms_import.specs.Rows.{RowsFrom, unread}
use Rattle.nms_import.specs.declared.row_source.RowSource.{RowSource}
use Rattle.nms_compare.specs.Compared.{rows_in}
use Rattle.nms_compare.proofs.CountFacts.{counts_more}
use Rattle.nms_compare.proofs.SumFacts.{all_counted, sums_more}
use Rattle.nms_compare.proofs.comparing.compare_rows.Goals as goal

pub loop-done-init : goal.loop-done-init
loop-done-init g c = (
  ap rows_in c.none-counts.ensures,
  c.in_ok-walk.ensures.tape,
  c.in_ok-walk.ensures.keys,
  λ config bytes seen reads. (
    [],
    subst (λ (rows : List Record). RowsFrom {R = RowSource g.row.R.Denot} config (unread g.R.Read.remaining) c.args.reader.now bytes rows)
        (sym (append-nil seen)) reads,
    c.none-counts.ensures,
    ap rows_in c.none-counts.ensures,
    refl,
  ),
)

pub returns-then-not-branch : goal.returns-then-not-branch
returns-then-not-branch g c = record {
  counted = λ config bytes seen reads.
      let had = c.loop-done.invariant.3 config bytes seen reads in
      let none : c.in_ok-next_row.field-0 ≡ false = cc in (
        had.0,
        c.in_ok-next_row.ensures.end config bytes (seen ++ had.0) had.1 (ap (λ (b : Bool). Ok b) none),
        had.2,
        had.3,
        rw had.4 (all_counted _ _),
      );
}

pub loop-done-preserved : goal.loop-done-preserved
loop-done-preserved g c = (
  c.count.ensures.rows ∙ ap (λ n. n + 1) c.loop-done.invariant.0,
  rw c.in_ok-found.ensures.tape c.loop-done.invariant.1,
  rw c.in_ok-found.ensures.keys c.loop-done.invariant.2,
  λ config bytes seen reads.
      let had = c.loop-done.invariant.3 config bytes seen reads in
      let is_found : c.in_ok-next_row.field-0 ≡ true = cc in
      let row = fields_of c.next_row.new.row in
      let found = c.in_ok-next_row.ensures.found config bytes (seen ++ had.0) had.1 (ap (λ (b : Bool). Ok b) is_found) in (
        had.0 ++ row ∷ [],
        subst (λ (rows : List Record). RowsFrom {R = RowSource g.row.R.Denot} config (unread g.R.Read.remaining) c.next_row.new.reader bytes rows)
            (append_assoc seen had.0 (row ∷ [])) found,
        counts_more c.args.vendor.now c.args.keyed.now.tape.now.roster.now c.args.keyed.now.tape.now.changes.items
            c.args.keyed.now.keys.items had.0 row c.loop-done.counts c.in_ok-found.found c.count.new.self had.2
            (rw (c.loop-done.invariant.1, c.loop-done.invariant.2) at c.in_ok-found.ensures.found) c.count.ensures.counted,
        omega (arith, c.count.ensures.rows, had.3, length-append had.0 (row ∷ [])),
        sums_more c.args.vendor.now c.args.keyed.now.tape.now.roster.now c.args.keyed.now.tape.now.changes.items
            c.args.keyed.now.keys.items had.0 row c.args.shown.now.sums c.loop-done.shown.sums _ had.4
            (rw (c.loop-done.invariant.1, c.loop-done.invariant.2, c.at.ensures) at c.in_ok-found.ensures.sums),
      ),
)
