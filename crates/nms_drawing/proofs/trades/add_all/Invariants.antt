-- `add_all`: the rows so far and those of the executions that are left are all rows.
use Rattle.std.proofs.Common.{◌≡◌, ◌++◌, drop, length, map}
use Rattle.nms_drawing.specs.Trades.{execution_rows, ids_of, passed_rows, passed_rows_from, shown_of}
use Rattle.nms_drawing.proofs.trades.add_all.Given as goal

abbrev pub invariant-loop-place : goal.invariant-loop-place
invariant-loop-place l = record {
  executions : l.rows.executions.items ++ execution_rows l.window (shown_of l.window (drop l.place l.executions) (drop l.place l.findings))
      ≡ execution_rows l.window (shown_of l.window l.executions l.findings);
  passed : l.rows.passed.items ++ passed_rows_from (length l.rows.executions.items)
      (shown_of l.window (drop l.place l.executions) (drop l.place l.findings))
      ≡ passed_rows (shown_of l.window l.executions l.findings);
  ids : map (λ text. text.now) l.rows.ids.items ++ ids_of (shown_of l.window (drop l.place l.executions) (drop l.place l.findings))
      ≡ ids_of (shown_of l.window l.executions l.findings);
}
