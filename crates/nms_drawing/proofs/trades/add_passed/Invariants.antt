-- `add_passed`: the quotations so far and those that are left are all of them.
use Rattle.std.proofs.Common.{◌≡◌, ◌++◌, ℕ, drop}
use Rattle.nms_drawing.specs.Trades.{Shown, passed_from}
use Rattle.nms_drawing.proofs.trades.add_passed.Given as goal

abbrev pub invariant-loop-place : goal.invariant-loop-place
invariant-loop-place l = (day : ℕ) → let shown : Shown = record { execution = l.execution; finding = l.finding; day = day } in
    l.rows.items ++ passed_from l.number shown l.place (drop l.place l.finding.passed.items)
    ≡ l.fn.rows.items ++ passed_from l.number shown 0 l.finding.passed.items
