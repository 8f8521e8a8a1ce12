-- `take_records`: what holds in each turn of its loop.
use Rattle.std.proofs.Common.{◌≡◌, ◌-◌, ℕ, All, List, [], Option, length}
use Rattle.nms_lines.specs.Layout.{Record}
use Rattle.nms_lines.specs.Records.{ReadsFrom}
use Rattle.nms_trades.specs.Answers.{AreNumbered}
use Rattle.nms_trades.specs.Reading.{IsInWindow, IsOn}
use Rattle.nms_trades.proofs.execution_file.take_records.Given as goal

-- the executions so far are of the roster and of a number of changes, with their versions in their windows; each record so far
-- has its number; and this number of records of the file was read
abbrev pub invariant-loop-number : goal.invariant-loop-number
invariant-loop-number g l = record {
  on : All (IsOn l.roster l.clock.changes) l.records.executions.items;
  window : All IsInWindow l.records.executions.items;
  numbered : AreNumbered (l.number - 1) l.records.executions.items l.records.refused.items;
  reads : (bytes : Option (List ℕ)) → ReadsFrom g.R.Read.remaining l.fn.reader bytes []
      → (seen : List Record) × ReadsFrom g.R.Read.remaining l.reader bytes seen × (length seen ≡ l.number - 1);
}
