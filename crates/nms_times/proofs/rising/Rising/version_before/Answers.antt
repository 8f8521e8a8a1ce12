-- `version_before`: all that it promises. Times that do not fall are parted by the test of what is
-- earlier, so the bisection finds the prefix.
use Rattle.std.proofs.Common.{ltb, rules, refl}
use Rattle.std.proofs.lemmas.List.Sorted.{IsPartitionPoint-from_clause, IsPartitionedBy-ltb}
use Rattle.nms_times.proofs.VersionFacts.{at_point}
use Rattle.nms_times.proofs.rising.Rising.version_before.Goals as goal

pub returns-clause-version : goal.returns-clause-version
returns-clause-version c =
    let times = c.args.self.now.times.now in
    let parted = IsPartitionedBy-ltb (λ x. x) times c.args.time c.args.self.now.rise in
    let point =
    IsPartitionPoint-from_clause (λ x. ltb x c.args.time) _ _ c.partition_point-found.ensures.partitioned parted
    (λ a r q k. search rules) in
    rw (at_point (λ x. ltb x c.args.time) times c.partition_point-found.result c.partition_point-found.ensures.bound point 0) refl
