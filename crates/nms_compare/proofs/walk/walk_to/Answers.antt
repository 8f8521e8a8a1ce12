-- `walk_to`: the version at the later key, by `version_later`.
use Rattle.std.proofs.Common.{◌≡◌, ◌+◌, drop, sym, ap, ◌∙◌, List, ℕ}
use Rattle.nms_compare.specs.Standing.{version_by}
use Rattle.nms_compare.proofs.StandingFacts.{version_later}
use Rattle.nms_compare.proofs.walk.walk_to.Goals as goal

pub invariant_of-walk-clause-at : goal.invariant_of-walk-clause-at
invariant_of-walk-clause-at c =
    let keys : List ℕ = c.args.walk.now.keys.now in
    let had = version_by keys c.args.walk.now.key in
    let same : c.applied-at.result ≡ had = c.applied-at.ensures.count ∙ c.args.walk.now.at in
    let more : c.count_not_later.result ≡ version_by (drop had keys) c.args.key =
    c.count_not_later.ensures.count
    ∙ ap (λ (ks : List ℕ). version_by ks c.args.key) (c.split_at.ensures.back ∙ ap (λ n. drop n keys) same) in
    c.move_to.ensures.moved ∙ ap (λ n. n + c.count_not_later.result) same ∙ ap (λ n. had + n) more
    ∙ sym (version_later keys c.args.walk.now.key c.args.key c.requires)
