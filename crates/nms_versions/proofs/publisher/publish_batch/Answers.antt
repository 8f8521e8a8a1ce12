-- `publish_batch`: the call of `publish_pair`, by `shows`, and clauses `shown` and `sizes`: the board took in the batch.
use Rattle.std.proofs.Common.{◌≡◌, ◌++◌, ◌∷◌, [], List, fold, ap, ◌∙◌}
use Rattle.nms_versions.specs.Fresh.{items_of}
use Rattle.nms_versions.specs.Rule.{absorbed}
use Rattle.nms_versions.specs.declared.batch.Batch.{Batch}
use Rattle.nms_versions.specs.declared.sealed.Sealed.{Sealed}
use Rattle.nms_versions.proofs.PublishLemmas.{sizes_taken}
use Rattle.nms_versions.proofs.RuleLemmas.{shows}
use Rattle.nms_versions.proofs.publisher.publish_batch.Goals as goal

pub publish_pair-requires : goal.publish_pair-requires
publish_pair-requires g c =
    let waiting = c.give.ensures.pending ∙ ap (λ (w : List Batch). w ++ c.args.with.1 ∷ []) c.requires.idle in
    record {
      rule = λ next is.
          let taken : next ≡ absorbed c.args.writer.desk.shown.value c.args.with.1 =
          rw is (λ i. fold absorbed (c.give.ensures.desk i).shown.value (waiting i)) in
          rw c.give.ensures.desk (shows _ _ _ next c.args.with.1 c.requires.follows taken);
    }

pub returns-clause-shown : goal.returns-clause-shown
returns-clause-shown g c =
    let waiting = c.give.ensures.pending ∙ ap (λ (w : List Batch). w ++ c.args.with.1 ∷ []) c.requires.idle in
    ap (λ (s : Sealed). s.seen)
    (c.publish_pair.ensures.shown ∙ (λ i. fold absorbed (c.give.ensures.desk i).shown.value (waiting i)))

pub returns-clause-sizes : goal.returns-clause-sizes
returns-clause-sizes g c =
    let waiting = c.give.ensures.pending ∙ ap (λ (w : List Batch). w ++ c.args.with.1 ∷ []) c.requires.idle in
    ap (λ (s : Sealed). s.boards.sizes)
    (c.publish_pair.ensures.shown ∙ (λ i. fold absorbed (c.give.ensures.desk i).shown.value (waiting i)))
    ∙ sizes_taken (items_of c.args.with.1.changes) c.args.writer.desk.shown.value.boards
