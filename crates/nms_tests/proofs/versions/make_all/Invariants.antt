-- `make_all`: what holds in each turn of its loop.
use Rattle.std.proofs.Common.{◌≡◌}
use Rattle.nms_tests.proofs.versions.make_all.Given as goal

abbrev pub invariant-loop-word : goal.invariant-loop-word
invariant-loop-word g l = l.one.opening ≡ l.publisher.opening
