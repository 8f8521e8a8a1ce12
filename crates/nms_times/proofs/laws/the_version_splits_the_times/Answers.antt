-- `the_version_splits_the_times`: all that it promises, by `at_splits` and `before_splits`.
use Rattle.nms_times.proofs.VersionFacts.{at_splits, before_splits}
use Rattle.nms_times.proofs.laws.the_version_splits_the_times.Goals as goal

pub returns : goal.returns
returns c times t place rise inside =
    let at = at_splits times t place rise inside in
    let before = before_splits times t place rise inside in
    record { within = at.0; beyond = at.1; within_before = before.0; beyond_before = before.1 }
