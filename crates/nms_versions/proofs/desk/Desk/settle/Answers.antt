-- `Desk::settle`: clauses `begins` and `published`, by `all_begin`, `all_published` and `prefix_shorter`.
use Rattle.std.proofs.Common.{length, ap, subst, arith}
use Rattle.std.proofs.lemmas.Grind.{common_steps}
use Rattle.std.specs.List.{AllByRecursion, Contains}
use mathlib.Core.List.{IsPrefix}
use Rattle.nms_quote.specs.Tape.{Tape}
use Rattle.nms_versions.specs.Published.{Batches, changes, publications}
use Rattle.nms_versions.specs.Taped.{AllBegin, Knowing, Receipted}
use Rattle.nms_versions.proofs.BatchLemmas.{all_begin, all_published, prefix_shorter}
use Rattle.nms_versions.proofs.desk.Desk.settle.Goals as goal

-- what the desk knows begins the receipt's version
begins : (c : goal.After-drop-self) → IsPrefix c.self.inside.newest.log c.receipt.inside.seen.log
begins c =
    let knew : IsPrefix c.self.inside.newest.log c.learn.new.self.log =
    subst (λ (l : Batches). IsPrefix l c.learn.new.self.log) (ap (λ s. s.log) c.again-both.ensures) c.learn.ensures.2 in
    prefix_shorter c.self.inside.newest.log c.receipt.inside.seen.log c.learn.new.self.log knew c.learn.ensures.3
    c.learn.ensures.4.1.none_empty
    (omega (arith, c.receipt.invariant, c.self.invariant.2.counted, c.if-version-receipt.false))

pub returns-clause-begins : goal.returns-clause-begins
returns-clause-begins c =
    subst (λ (both : Receipted × Knowing). AllBegin (changes both.0.published) both.1.known) (λ i. (c.receipt.view_is i, c.self.view_is i))
    (all_begin _ _ _ c.self.invariant.2.begin (begins c))

pub returns-clause-published : goal.returns-clause-published
returns-clause-published c =
    subst (λ (both : Receipted × Knowing). AllByRecursion (λ (version : Tape). Contains (publications both.0.published) (length version))
    both.1.known) (λ i. (c.receipt.view_is i, c.self.view_is i))
    (all_published _ _ _ c.self.invariant.2.begin (begins c))

-- ---- goals that `grind` closes; the search that is tried before it takes longer

pub returns-clause-settled : goal.returns-clause-settled
returns-clause-settled c = grind (arith, common_steps)
