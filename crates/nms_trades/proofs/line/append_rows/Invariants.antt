-- `append_rows`: what holds in each turn of its loop.
use Rattle.std.proofs.Common.{◌≡◌, ◌++◌, take}
use Rattle.nms_lines.specs.Text.{text_of}
use Rattle.nms_trades.specs.Lines.{row_records}
use Rattle.nms_trades.proofs.line.append_rows.Given as goal

-- the records so far were appended
abbrev pub invariant-loop-place : goal.invariant-loop-place
invariant-loop-place l = l.out.items ≡ l.fn.out.items
    ++ text_of (row_records l.roster l.execution l.finding 0 (take l.place l.finding.passed.items))
