-- `numbers`: the number once for each turn.
use Rattle.std.proofs.Common.{◌≡◌, replicate}
use Rattle.nms_trades.proofs.quoted.numbers.Given as goal

abbrev pub invariant-loop : goal.invariant-loop
invariant-loop l = l.numbers.items ≡ replicate l.counter l.number
