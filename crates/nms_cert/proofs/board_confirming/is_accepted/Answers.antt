-- `is_accepted`: all that it promises, by `none_of_right` and `walked_right`.
use Rattle.std.proofs.Common.{ℕ, ◌≡◌, true, List, ap, sym, ◌∙◌, subst}
use Rattle.std.specs.Prelude.{AllPairs, ◌≤ℤ◌}
use Rattle.std.specs.List.Sorted.{IsPermutation}
use Rattle.nms_quote.specs.Terms.{Terms}
use Rattle.nms_board.specs.Shown.{seen_on}
use Rattle.nms_board.specs.View.{Seen}
use Rattle.nms_rules.specs.Assignment.{fillable}
use Rattle.nms_rules.specs.Usable.{Usable, usable}
use Rattle.nms_cert.specs.Walk.{are_walked, none_passed}
use Rattle.nms_cert.proofs.AcceptedLemmas.{none_of_right}
use Rattle.nms_cert.proofs.WalkLemmas.{fillable_same, usable_ranked, walked_right}
use Rattle.nms_cert.proofs.board_confirming.is_accepted.Goals as goal

pub returns : goal.returns
returns c = λ e.
    let order : Terms = c.args.order.now in
    let seen : Seen = seen_on c.args.board.now order.sym in
    let fees = c.args.fees.now in
    let plan = c.args.plan.now in
    let cuts = c.args.cuts.now in
    let one : List Usable = usable seen order fees in
    let rows : List Usable = c.as_slice-rows.result.now in
    let most : ℕ = fillable one order.shares in
    let same : IsPermutation one rows = rw c.as_slice-rows.ensures.value c.put_usable_rows.ensures.same in
    let ordered : AllPairs (λ row later. row.rank ≤ℤ later.rank) rows =
    rw c.as_slice-rows.ensures.value c.put_usable_rows.ensures.ordered in
    let all : c.fillable-most.result ≡ most =
    c.fillable-most.ensures.most ∙ ap (λ (terms : Terms). fillable rows terms.shares) c.order.view_is
    ∙ fillable_same one rows same order.shares in
    let walked : are_walked order.side rows most plan.cost none_passed rows cuts ≡ true =
    subst (λ (n : ℕ). are_walked order.side rows n plan.cost none_passed rows cuts ≡ true) all
    (subst (λ (terms : Terms). are_walked terms.side rows c.fillable-most.result plan.cost none_passed rows cuts ≡ true) c.order.view_is
    (sym c.are_walked.ensures ∙ e)) in
    none_of_right seen order fees plan cuts (c.is_lawful.ensures c.if-not-is_lawful.false)
    (sym c.from.ensures ∙ c.if-from-most.false ∙ all)
    (walked_right order.side one rows most plan.cost cuts same (usable_ranked seen order fees) ordered walked)
