-- `is_lawful`: all that it promises, by `none_of_keeps`.
use Rattle.std.proofs.Common.{◌≡◌, false, List, All, refl, ap, sym, ◌∙◌, subst}
use Rattle.std.proofs.lemmas.Bool.{eq-eqb}
use Rattle.std.proofs.lemmas.List.Sorted.{All-permutation, IsPermutation-sym}
use Rattle.nms_quote.specs.Terms.{Terms}
use Rattle.nms_quote.specs.declared.plan.Leg.{Leg}
use Rattle.nms_board.specs.Shown.{seen_on}
use Rattle.nms_board.specs.View.{Seen}
use Rattle.nms_rules.specs.Breach.{has_repeat}
use Rattle.nms_rules.specs.Usable.{Usable, usable}
use Rattle.nms_cert.specs.Quick.{are_suited, is_passed_over}
use Rattle.nms_cert.proofs.QuickLemmas.{none_of_keeps}
use Rattle.nms_cert.proofs.board_confirming.is_lawful.Goals as goal

pub returns : goal.returns
returns c = λ summed.
    let order : Terms = c.args.order.now in
    let seen : Seen = seen_on c.args.board.now order.sym in
    let fees = c.args.fees.now in
    let plan = c.args.plan.now in
    let legs : List Leg = plan.legs.items in
    let rows : List Usable = c.args.rows.now in
    let is_legs : c.as_slice-legs.result.now ≡ legs = c.as_slice-legs.ensures.value in
    let passed : All (λ row. is_passed_over order.side legs row ≡ false) rows =
    subst (λ (one : Terms). All (λ row. is_passed_over one.side legs row ≡ false) rows) c.order.view_is
    (subst (λ (some : List Leg). All (λ row. is_passed_over c.order.inside.side some row ≡ false) rows) is_legs
    (c.some_is_passed_over.ensures c.if-some_is_passed_over.false)) in
    none_of_keeps seen order fees plan (record {
      version = eq-eqb plan.version seen.version (c.if-plan-applied.false ∙ c.applied.ensures.count);
      same = sym c.is_for.ensures ∙ c.if-not-is_for.false;
      symbol = refl;
      suited = ap (are_suited seen order) (sym is_legs) ∙ sym c.are_suited.ensures ∙ c.if-not-are_suited.false;
      once = ap has_repeat (sym is_legs) ∙ sym c.has_repeat.ensures ∙ c.if-has_repeat.false;
      passed = All-permutation (λ (row : Usable). is_passed_over order.side legs row ≡ false) rows (usable seen order fees)
          (IsPermutation-sym (usable seen order fees) rows c.requires.rows) passed;
      summed = sym c.is_summed.ensures ∙ summed;
    })
