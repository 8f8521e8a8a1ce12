-- `publish_often`: what holds in each turn of its loop.
use Rattle.std.proofs.Common.{◌≡◌}
use Rattle.nms_tests.proofs.versions.publish_often.Given as goal

abbrev pub invariant-loop : goal.invariant-loop
invariant-loop g l = l.publisher.opening ≡ l.fn.publisher.opening
