-- `sums_of`: what holds in each turn of its loop.
use Rattle.std.proofs.Common.{◌≡◌, take}
use Rattle.nms_trades.specs.Sums.{IsCost, marked_from, sums_in}
use Rattle.nms_trades.proofs.money_through.sums_of.Given as goal

-- the sums are those of the quotations so far
abbrev pub invariant-loop-place : goal.invariant-loop-place
invariant-loop-place l = record {
  sums : l.sums ≡ sums_in l.execution l.execution.shares (marked_from l.finding 0 (take l.place l.finding.passed.items));
  cost : IsCost l.sums;
}
