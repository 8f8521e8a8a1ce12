-- `make_desks`: what holds in each turn of its loop: `desks`, `shown`, `waiting` and `knows`.
use Rattle.std.proofs.Common.{◌≡◌, ◌∷◌, [], drop, replicate}
use Rattle.nms_versions.specs.Rule.{sizes_known}
use Rattle.nms_versions.proofs.opening.make_desks.Given as goal

-- n desks were made
abbrev pub invariant-loop : goal.invariant-loop
invariant-loop l = record {
  desks : l.desks.items ≡ replicate l.counter
      (record { opening = l.fn.seen.book; sizes = sizes_known l.fn.writer.desk.place.me.0.client; known = [] ∷ [] });
  shown : l.writer.desk.shown ≡ l.fn.writer.desk.shown;
  waiting : drop l.writer.behind l.writer.log.items ≡ drop l.fn.writer.behind l.fn.writer.log.items;
  knows : l.writer.desk.place.me.0.client ≡ l.fn.writer.desk.place.me.0.client;
}
