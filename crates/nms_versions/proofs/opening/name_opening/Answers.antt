-- `name_opening`: the call of `publish_pair`, by `names`.
use Rattle.std.proofs.Common.{◌≡◌, ◌++◌, ◌∷◌, [], List, drop, fold, ap, rules}
use Rattle.nms_versions.specs.Rule.{absorbed}
use Rattle.nms_versions.specs.declared.batch.Batch.{Batch}
use Rattle.nms_versions.proofs.RuleLemmas.{names}
use Rattle.nms_versions.proofs.opening.name_opening.Goals as goal

pub publish_pair-requires : goal.publish_pair-requires
publish_pair-requires g c =
    let given : drop c.append.new.self.behind c.append.new.self.log.items ≡ drop c.args.writer.behind c.args.writer.log.items
    ++ c.args.empty ∷ [] = search rules in
    let waiting : drop c.append.new.self.behind c.append.new.self.log.items ≡ c.args.empty ∷ [] =
    rw given (ap (λ (w : List Batch). w ++ c.args.empty ∷ []) c.requires.idle) in
    record {
      rule = λ next is.
          let taken : next ≡ absorbed c.args.writer.desk.shown.value c.args.empty =
          rw is (λ i. fold absorbed (c.append.ensures.desk i).shown.value (waiting i)) in
          rw c.append.ensures.desk (names _ _ _ next c.args.empty c.requires.empty c.requires.seen taken);
    }
