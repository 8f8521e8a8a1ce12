-- `push_passed`: the rows so far that are traded through.
use Rattle.std.proofs.Common.{◌≡◌, ◌++◌, filter, map, take}
use Rattle.nms_board.specs.declared.row.Row.{Row}
use Rattle.nms_rules.specs.Through.{is_through}
use Rattle.nms_trades.specs.Judged.{whole_price}
use Rattle.nms_trades.proofs.judging.push_passed.Given as goal

abbrev pub invariant-loop-row : goal.invariant-loop-row
invariant-loop-row l =
    l.passed.items ≡ l.fn.passed.items
    ++ map (λ (row : Row). (l.side, row)) (filter (is_through l.side (whole_price l.side l.millionths)) (take l.row-index l.rows))
