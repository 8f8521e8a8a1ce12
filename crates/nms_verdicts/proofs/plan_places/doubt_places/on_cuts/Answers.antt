-- `on_cuts`: what its call asks for, and all that it promises, by `same-doubt` and `same-place`.
use Rattle.std.proofs.Common.{◌≡◌, List, ap, ◌∙◌}
use Rattle.nms_quote.specs.Terms.{Terms}
use Rattle.nms_rules.specs.Assignment.{fillable}
use Rattle.nms_rules.specs.Usable.{Usable, usable}
use Rattle.nms_verdicts.proofs.CutLemmas.{same-doubt, same-place}
use Rattle.nms_verdicts.proofs.plan_places.doubt_places.on_cuts.Goals as goal

pub cuts_place-requires-clause-doubt : goal.cuts_place-requires-clause-doubt
cuts_place-requires-clause-doubt c =
    let rows : List Usable = usable c.args.view.now c.args.order.now c.args.fees.now in
    let most : c.fillable-most.result ≡ fillable rows c.args.order.now.shares = c.fillable-most.ensures.most
    ∙ (ap (λ (terms : Terms). fillable c.as_slice.result.now terms.shares) c.order.view_is
    ∙ ap (λ (it : List Usable). fillable it c.args.order.now.shares) (c.as_slice.ensures.value ∙ c.usable_rows-rows.ensures.rows)) in
    same-doubt c.args.order.now.side _ rows _ (fillable rows c.args.order.now.shares) _ c.args.plan.now.cost c.args.certificate.now.items _
    (ap (λ (terms : Terms). terms.side) c.order.view_is) (c.as_slice-2.ensures.value ∙ c.usable_rows-rows.ensures.rows) most
    c.as_slice-cuts.ensures.value ∙ c.requires

pub returns : goal.returns
returns c =
    let rows : List Usable = usable c.args.view.now c.args.order.now c.args.fees.now in
    let most : c.fillable-most.result ≡ fillable rows c.args.order.now.shares = c.fillable-most.ensures.most
    ∙ (ap (λ (terms : Terms). fillable c.as_slice.result.now terms.shares) c.order.view_is
    ∙ ap (λ (it : List Usable). fillable it c.args.order.now.shares) (c.as_slice.ensures.value ∙ c.usable_rows-rows.ensures.rows)) in
    same-place c.args.order.now.side _ rows _ (fillable rows c.args.order.now.shares) _ c.args.plan.now.cost c.args.certificate.now.items _
    c.args.doubt c.cuts_place.result (ap (λ (terms : Terms). terms.side) c.order.view_is)
    (c.as_slice-2.ensures.value ∙ c.usable_rows-rows.ensures.rows) most c.as_slice-cuts.ensures.value c.cuts_place.ensures
