-- `worst_by`: the first one is among the quotations that are left.
use Rattle.std.proofs.Common.{◌≡◌, drop}
use Rattle.nms_trades.specs.Columns.{worst_by}
use Rattle.nms_trades.proofs.columns.worst_by.Given as goal

abbrev pub invariant-loop-one : goal.invariant-loop-one
invariant-loop-one l = worst_by l.execution l.worst (drop l.one-index l.passed) ≡ worst_by l.execution l.worst l.passed
