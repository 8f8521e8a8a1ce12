-- `append_worked`: what holds in each turn of its loop.
use Rattle.std.proofs.Common.{◌≡◌}
use Rattle.nms_tests.proofs.versions.append_worked.Given as goal

abbrev pub invariant-loop-offer : goal.invariant-loop-offer
invariant-loop-offer g l = l.publisher.opening ≡ l.fn.publisher.opening
