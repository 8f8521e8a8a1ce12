-- `Desk::learn`: the invariant of what it leaves, by `prefix_shorter`, `remembers_longer` and `remembers_shorter`.
use Rattle.std.proofs.Common.{◌≤◌, IfSome, length, ap, sym, subst, ◌∙◌, arith}
use Rattle.std.proofs.lemmas.Grind.{common_steps}
use mathlib.Core.List.{IsPrefix}
use Rattle.logbook.specs.Pages.{Book}
use Rattle.nms_versions.specs.Published.{Batches, changes}
use Rattle.nms_versions.specs.Rule.{IsNamed}
use Rattle.nms_versions.proofs.BatchLemmas.{prefix_shorter, remembers_longer, remembers_shorter}
use Rattle.nms_versions.proofs.desk.Desk.learn.Goals as goal

pub invariant_of-self : goal.invariant_of-self
invariant_of-self c =
    let knew : IsPrefix c.self.inside.newest.log c.learn.new.self.log =
    subst (λ (l : Batches). IsPrefix l c.learn.new.self.log) (ap (λ s. s.log) c.again-both.ensures) c.learn.ensures.2 in
    let le : length (changes c.receipt.inside.seen.log) ≤ c.self.inside.longest =
    omega (arith, c.receipt.invariant, c.if-version-self.true) in
    let begins : IsPrefix c.receipt.inside.seen.log c.self.inside.newest.log =
    prefix_shorter c.receipt.inside.seen.log c.self.inside.newest.log c.learn.new.self.log c.learn.ensures.3 knew
    c.learn.ensures.4.1.none_empty (omega (arith, le, c.self.invariant.2.counted)) in
    (c.self.invariant.0, c.self.invariant.1, rw (c.with.ensures, c.again.ensures) (remembers_shorter _ _ _ _ c.self.invariant.2 begins le))

pub invariant_of-self-2 : goal.invariant_of-self-2
invariant_of-self-2 c =
    let knew : IsPrefix c.self.inside.newest.log c.learn.new.self.log =
    subst (λ (l : Batches). IsPrefix l c.learn.new.self.log) (ap (λ s. s.log) c.again-both.ensures) c.learn.ensures.2 in
    let begins : IsPrefix c.self.inside.newest.log c.receipt.inside.seen.log =
    prefix_shorter c.self.inside.newest.log c.receipt.inside.seen.log c.learn.new.self.log knew c.learn.ensures.3
    c.learn.ensures.4.1.none_empty
    (omega (arith, c.receipt.invariant, c.self.invariant.2.counted, c.if-version-self.false)) in
    let book = ap (λ d. d.opening) c.self.view_is ∙ sym c.requires.opening ∙ sym (ap (λ r. r.opening) c.receipt.view_is) in (
      c.self.invariant.0,
      subst (λ (b : Book). IfSome c.self.inside.reader (λ r. IsNamed r.place.me.0.client b)) book c.self.invariant.1,
      rw (c.with.ensures, c.again.ensures) (remembers_longer _ _ _ _ _ c.self.invariant.2 begins c.receipt.invariant
          (omega (arith, c.if-version-self.false))),
    )

-- ---- goals that `grind` closes; the search that is tried before it takes longer

pub returns : goal.returns
returns c = grind (arith, common_steps)

pub returns-then-version-self : goal.returns-then-version-self
returns-then-version-self c = grind (arith, common_steps)
