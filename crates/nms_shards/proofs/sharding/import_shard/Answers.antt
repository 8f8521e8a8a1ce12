-- `import_shard`: clause `rows`, and the turns of its loop.
use Rattle.std.proofs.Common.{◌≡◌, ◌+◌, ◌++◌, [], List, Bool, true, false, Ok, if◌then◌else◌, ap, arith, refl, sym}
use Rattle.std.proofs.Common.{subst, ◌∙◌, append_assoc, length, length-append}
use Rattle.std.proofs.lemmas.List.{append-nil}
use Rattle.nms_lines.specs.Layout.{Record}
use Rattle.nms_import.specs.Imported.{rows_in}
use Rattle.nms_import.specs.Rows.{RowsFrom, unread}
use Rattle.nms_import.specs.declared.row_source.RowSource.{RowSource}
use Rattle.nms_shards.specs.Shard.{waiting}
use Rattle.nms_shards.proofs.sharding.import_shard.Goals as goal

pub loop-done-init : goal.loop-done-init
loop-done-init g c = (
  sym c.in-Some.ensures.rows,
  omega arith,
  omega arith,
  refl,
  refl,
  λ config bytes seen reads. (
    [],
    subst (λ (rows : List Record). RowsFrom {R = RowSource g.row.R.Denot} config (unread g.R.Read.remaining) c.args.reader.now bytes rows)
        (sym (append-nil seen)) reads,
    omega arith,
  ),
)

-- the file has no more rows
pub returns-then-not-branch-clause-rows : goal.returns-then-not-branch-clause-rows
returns-then-not-branch-clause-rows g c = λ config bytes seen reads.
    let had = c.loop-done.invariant.5 config bytes seen reads in
    let is_none : c.in_ok-fetch_row.field-0 ≡ false = cc in
    let end = c.in_ok-fetch_row.ensures.end config bytes (seen ++ had.0) had.1 (ap (λ (b : Bool). Ok b) is_none) in
    (had.0, end.0, omega (arith, had.2, end.1))

-- the current row waits
pub returns-then-not-is_taken-clause-rows : goal.returns-then-not-is_taken-clause-rows
returns-then-not-is_taken-clause-rows g c = λ config bytes seen reads.
    let had = c.loop-done.invariant.5 config bytes seen reads in
    let is_found : c.in_ok-fetch_row.field-0 ≡ true = cc in
    let found = c.in_ok-fetch_row.ensures.found config bytes (seen ++ had.0) had.1 (ap (λ (b : Bool). Ok b) is_found) in
    let is_left : c.in_ok-is_taken.is_taken ≡ false = cc in
    let none : rows_in c.import_row.new.tally ≡ rows_in c.loop-done.tally + 0 =
    c.in_ok-is_taken.ensures.rows ∙ ap (λ (b : Bool). rows_in c.loop-done.tally + (if b then 1 else 0)) is_left in (
      had.0 ++ found.0,
      subst (λ (rows : List Record). RowsFrom {R = RowSource g.row.R.Denot} config (unread g.R.Read.remaining) c.fetch_row.new.reader bytes rows)
          (append_assoc seen had.0 found.0) found.1,
      omega (arith, none, had.2, found.2, length-append had.0 found.0),
    )

pub loop-done-preserved : goal.loop-done-preserved
loop-done-preserved g c =
    let is_taken : c.in_ok-is_taken.is_taken ≡ true = cc in
    let one : rows_in c.import_row.new.tally ≡ rows_in c.loop-done.tally + 1 =
    c.in_ok-is_taken.ensures.rows ∙ ap (λ (b : Bool). rows_in c.loop-done.tally + (if b then 1 else 0)) is_taken in (
      one ∙ ap (λ n. n + 1) c.loop-done.invariant.0,
      omega (arith, c.in_ok-is_taken.ensures.changes, c.loop-done.invariant.1),
      omega (arith, c.in_ok-is_taken.ensures.own, c.loop-done.invariant.2),
      c.in_ok-is_taken.ensures.limit ∙ c.loop-done.invariant.3,
      c.in_ok-is_taken.ensures.opened ∙ c.loop-done.invariant.4,
      λ config bytes seen reads.
          let had = c.loop-done.invariant.5 config bytes seen reads in
          let is_found : c.in_ok-fetch_row.field-0 ≡ true = cc in
          let found = c.in_ok-fetch_row.ensures.found config bytes (seen ++ had.0) had.1 (ap (λ (b : Bool). Ok b) is_found) in
          let counted : rows_in c.import_row.new.tally + 0
          ≡ rows_in c.args.tally.now + waiting c.args.waits + length (had.0 ++ found.0) =
          omega (arith, one, had.2, found.2, length-append had.0 found.0) in (
            had.0 ++ found.0,
            subst
                (λ (rows : List Record). RowsFrom {R = RowSource g.row.R.Denot} config (unread g.R.Read.remaining) c.fetch_row.new.reader
                bytes rows)
                (append_assoc seen had.0 found.0) found.1,
            counted,
          ),
    )
