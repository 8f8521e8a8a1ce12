-- `out_of_order_in`: clauses `worse` and `next`, by `behind-at` and `behind-next`, and the turns of its loop, by `order-more` and
-- `order-none`.
use Rattle.std.proofs.Common.{ℕ, ◌≡◌, ◌+◌, Bool, false, None, Some, below_more, drop, get_or, ap, sym, ◌∙◌}
use Rattle.std.specs.Prelude.{not}
use Rattle.std.specs.List.{position}
use Rattle.std.proofs.lemmas.List.{get_or_default, take_rest}
use Rattle.nms_quote.specs.declared.certificate.Cut.{Cut}
use Rattle.nms_rules.specs.Usable.{is_better}
use Rattle.nms_cert.specs.Doubts.{is_not_better}
use Rattle.nms_verdicts.proofs.FindLemmas.{behind-at, behind-next, none_any, not-false, not-true}
use Rattle.nms_verdicts.proofs.RepeatLemmas.{order-more, order-none}
use Rattle.nms_verdicts.proofs.plan_places.cut_tests.out_of_order_in.Goals as goal

pub returns-in-Some-clause-worse : goal.returns-in-Some-clause-worse
returns-in-Some-clause-worse c d =
    let cuts = c.args.cuts.now in
    let i = c.loop-first.first in
    let own : Cut = get_or cuts i c.index-cuts-first.result in
    let p : Cut → Bool = λ cut. not (is_better c.args.side own.price cut.price) in
    let found : position p (drop (i + 1) cuts) ≡ Some c.in-Some.at =
    ap (position p) (sym (take_rest cuts (i + 1))) ∙ (sym c.first_not_after.ensures ∙ c.in-Some.is) in
    let there : Cut = get_or cuts (i + 1 + c.in-Some.at) d in
    ap (λ (cut : Cut). is_better c.args.side cut.price there.price)
    (get_or_default cuts i d c.index-cuts-first.result c.loop-first-test.true)
    ∙ not-true (is_better c.args.side own.price there.price) (behind-at p cuts i c.in-Some.at d found)

pub returns-in-Some-clause-next : goal.returns-in-Some-clause-next
returns-in-Some-clause-next c d k after before =
    let cuts = c.args.cuts.now in
    let i = c.loop-first.first in
    let own : Cut = get_or cuts i c.index-cuts-first.result in
    let p : Cut → Bool = λ cut. not (is_better c.args.side own.price cut.price) in
    let found : position p (drop (i + 1) cuts) ≡ Some c.in-Some.at =
    ap (position p) (sym (take_rest cuts (i + 1))) ∙ (sym c.first_not_after.ensures ∙ c.in-Some.is) in
    let there : Cut = get_or cuts k d in
    ap (λ (cut : Cut). is_better c.args.side cut.price there.price)
    (get_or_default cuts i d c.index-cuts-first.result c.loop-first-test.true)
    ∙ not-false (is_better c.args.side own.price there.price) (behind-next p cuts i c.in-Some.at k d found after before)

pub loop-first-preserved : goal.loop-first-preserved
loop-first-preserved c =
    let cuts = c.args.cuts.now in
    let i = c.loop-first.first in
    let own : Cut = get_or cuts i c.index-cuts-first.result in
    let p : Cut → Bool = λ cut. not (is_better c.args.side own.price cut.price) in
    let none : position p (drop (i + 1) cuts) ≡ None =
    ap (position p) (sym (take_rest cuts (i + 1))) ∙ (sym c.first_not_after.ensures ∙ c.in-None.is) in
    let gone : is_not_better c.args.side own.price (drop (i + 1) cuts) ≡ false = none_any p (drop (i + 1) cuts) none in
    record {
      some = order-more c.args.side cuts i c.index-cuts-first.result c.loop-first-test.true c.loop-first.invariant.some gone;
      none = below_more (λ (k : ℕ). (d : Cut) → is_not_better c.args.side (get_or cuts k d).price (drop (k + 1) cuts) ≡ false) i
          c.loop-first.invariant.none (λ d. ap (λ (cut : Cut). is_not_better c.args.side cut.price (drop (i + 1) cuts))
          (get_or_default cuts i d c.index-cuts-first.result c.loop-first-test.true) ∙ gone);
    }

pub unreachable-requires : goal.unreachable-requires
unreachable-requires c =
    order-none c.args.side c.args.cuts.now c.loop-first.first c.loop-first-test.false c.loop-first.invariant.some
