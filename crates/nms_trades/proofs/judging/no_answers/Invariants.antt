-- `no_answers`: one place for each turn of the loop.
use Rattle.std.proofs.Common.{◌≡◌, length}
use Rattle.nms_trades.proofs.judging.no_answers.Given as goal

abbrev pub invariant-loop : goal.invariant-loop
invariant-loop l = length l.answers.items ≡ l.counter
