-- `repeat_in`: clauses `same` and `next`, by `behind-at` and `behind-next`, and the turns of its loop, by `repeat-more` and `repeat-none`.
use Rattle.std.proofs.Common.{ℕ, ◌≡◌, ◌==◌, ◌+◌, Bool, false, None, Some, below_more, drop, get_or, ap, sym, ◌∙◌}
use Rattle.std.specs.List.{position}
use Rattle.std.proofs.lemmas.Bool.{eqb-true}
use Rattle.std.proofs.lemmas.List.{get_or_default, take_rest}
use Rattle.nms_quote.specs.declared.plan.Leg.{Leg}
use Rattle.nms_rules.specs.Breach.{goes_to}
use Rattle.nms_verdicts.proofs.FindLemmas.{behind-at, behind-next, none_any}
use Rattle.nms_verdicts.proofs.RepeatLemmas.{repeat-more, repeat-none}
use Rattle.nms_verdicts.proofs.plan_places.leg_tests.repeat_in.Goals as goal

pub returns-in-Some-clause-same : goal.returns-in-Some-clause-same
returns-in-Some-clause-same c d =
    let legs = c.args.legs.now in
    let i = c.loop-first.first in
    let own : Leg = get_or legs i c.index-legs-first.result in
    let p : Leg → Bool = λ leg. leg.part == own.part in
    let found : position p (drop (i + 1) legs) ≡ Some c.in-Some.at =
    ap (position p) (sym (take_rest legs (i + 1))) ∙ (sym c.first_to.ensures ∙ c.in-Some.is) in
    ap (λ (leg : Leg). leg.part) (get_or_default legs i d c.index-legs-first.result c.loop-first-test.true)
    ∙ sym (eqb-true _ _ (behind-at p legs i c.in-Some.at d found))

pub returns-in-Some-clause-next : goal.returns-in-Some-clause-next
returns-in-Some-clause-next c d k after before =
    let legs = c.args.legs.now in
    let i = c.loop-first.first in
    let own : Leg = get_or legs i c.index-legs-first.result in
    let p : Leg → Bool = λ leg. leg.part == own.part in
    let found : position p (drop (i + 1) legs) ≡ Some c.in-Some.at =
    ap (position p) (sym (take_rest legs (i + 1))) ∙ (sym c.first_to.ensures ∙ c.in-Some.is) in
    ap (λ (leg : Leg). (get_or legs k d).part == leg.part) (get_or_default legs i d c.index-legs-first.result c.loop-first-test.true)
    ∙ behind-next p legs i c.in-Some.at k d found after before

pub loop-first-preserved : goal.loop-first-preserved
loop-first-preserved c =
    let legs = c.args.legs.now in
    let i = c.loop-first.first in
    let own : Leg = get_or legs i c.index-legs-first.result in
    let p : Leg → Bool = λ leg. leg.part == own.part in
    let none : position p (drop (i + 1) legs) ≡ None =
    ap (position p) (sym (take_rest legs (i + 1))) ∙ (sym c.first_to.ensures ∙ c.in-None.is) in
    let gone : goes_to own.part (drop (i + 1) legs) ≡ false = none_any p (drop (i + 1) legs) none in
    record {
      some = repeat-more legs i c.index-legs-first.result c.loop-first-test.true c.loop-first.invariant.some gone;
      none = below_more (λ (k : ℕ). (d : Leg) → goes_to (get_or legs k d).part (drop (k + 1) legs) ≡ false) i c.loop-first.invariant.none
          (λ d. ap (λ (leg : Leg). goes_to leg.part (drop (i + 1) legs))
          (get_or_default legs i d c.index-legs-first.result c.loop-first-test.true) ∙ gone);
    }

pub unreachable-requires : goal.unreachable-requires
unreachable-requires c = repeat-none c.args.legs.now c.loop-first.first c.loop-first-test.false c.loop-first.invariant.some
