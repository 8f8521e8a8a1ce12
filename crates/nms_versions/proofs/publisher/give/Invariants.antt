-- `give`: what holds in each turn of its loop: `desk`, `pending` and `batch`.
use Rattle.std.proofs.Common.{◌≡◌, drop}
use Rattle.nms_versions.proofs.publisher.give.Given as goal

-- nothing was given yet
abbrev pub invariant-loop : goal.invariant-loop
invariant-loop g l = record {
  desk : l.writer.desk ≡ l.fn.writer.desk;
  pending : drop l.writer.behind l.writer.log.items ≡ drop l.fn.writer.behind l.fn.writer.log.items;
  batch : l.batch ≡ l.fn.batch;
}
